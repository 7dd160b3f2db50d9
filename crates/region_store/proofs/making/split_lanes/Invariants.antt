use Rattle.std.proofs.Common.{◌≡◌}
use Rattle.region_store.specs.Store.{IsOn}
use Rattle.region_store.specs.LoaderEnd.{AreLanes, with_made}
use Rattle.region_store.proofs.making.split_lanes.Given as goal

-- the lanes so far
abbrev pub invariant-loop-lane : goal.invariant-loop-lane
invariant-loop-lane l = record {
  on : IsOn l.table.shared.table_id l.table.shared.key l.seat;
  made : l.seat.me.0 ≡ with_made l.lane l.fn.seat.me.0;
  lanes : AreLanes l.table.shared.table_id l.table.shared.key l.lane l.lanes.items;
}
