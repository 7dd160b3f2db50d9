use Rattle.std.proofs.Common.{◌≡◌, ℕ, ◌<◌, List, length, true, All}
use Rattle.region_store.specs.Steps.{is_clear}
use Rattle.region_store.specs.Store.{IsOn}
use Rattle.region_store.specs.Holders.{loads_of, IsPast}
use Rattle.region_store.specs.Publishing.{Looked}
use Rattle.region_store.proofs.finding.look_at.Given as goal

-- the pins of the lanes so far were loaded and are past, so these lanes are cleared
abbrev pub invariant-loop-lane : goal.invariant-loop-lane
invariant-loop-lane g l = record {
  on : IsOn l.table.shared.table_id l.table.shared.key l.seat;
  pins : List ℕ;
  count : length pins ≡ l.lane;
  past : All (IsPast l.epoch) pins;
  looked : Looked (loads_of pins) l.fn.seat.me.0 l.seat.me.0;
  clear : (k : ℕ) → k < l.lane → is_clear l.seat.me.0.loader l.region k ≡ true;
}
