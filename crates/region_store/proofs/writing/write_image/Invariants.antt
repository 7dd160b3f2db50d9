use Rattle.std.proofs.Common.{◌≡◌}
use Rattle.region_store.specs.Store.{IsOn}
use Rattle.region_store.specs.Finding.{written}
use Rattle.region_store.proofs.writing.write_image.Given as goal

-- the words so far are stored
abbrev pub invariant-loop-at : goal.invariant-loop-at
invariant-loop-at g l = record {
  on : IsOn l.table.shared.table_id l.table.shared.key l.seat;
  so_far : l.seat.me.0 ≡ written l.region l.image l.at l.fn.seat.me.0;
}
