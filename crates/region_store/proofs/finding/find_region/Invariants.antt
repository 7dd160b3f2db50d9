use Rattle.std.proofs.Common.{◌≡◌, ◌*◌, ◌≤◌, List, length}
use Rattle.region_store.specs.Store.{IsOn}
use Rattle.region_store.specs.Holders.{Held, AreHeld, loads_for, holders_in, spare_below}
use Rattle.region_store.specs.Publishing.{Looked}
use Rattle.region_store.proofs.finding.find_region.Given as goal

abbrev pub ghosts-look : goal.ghosts-look
ghosts-look a = record { number = a.region }

-- each region so far but the published one has its holder
abbrev pub invariant-loop-region : goal.invariant-loop-region
invariant-loop-region l = record {
  on : IsOn l.table.shared.table_id l.table.shared.key l.seat;
  held : List Held;
  few : length (loads_for held) ≤ length (spare_below l.region l.published) * l.lanes;
  looked : Looked (loads_for held) l.fn.seat.me.0 l.seat.me.0;
  are_held : AreHeld l.fn.seat.me.0 l.region held;
  holders_are : l.each.items ≡ holders_in held;
}
