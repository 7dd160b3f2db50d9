use Rattle.std.proofs.Common.{◌≡◌, map}
use Rattle.region_store.specs.Store.{IsOn}
use Rattle.region_store.specs.LoaderEnd.{lane_view, with_kept}
use Rattle.region_store.proofs.closing.join_lanes.Given as goal

-- the lanes so far are joined
abbrev pub invariant-loop-lane : goal.invariant-loop-lane
invariant-loop-lane l = record {
  on : IsOn l.table.shared.table_id l.table.shared.key l.seat;
  joined : l.seat.me.0 ≡ with_kept (map lane_view l.yielded) l.fn.seat.me.0;
}
