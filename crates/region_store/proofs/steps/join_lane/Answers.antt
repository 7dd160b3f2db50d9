use Rattle.std.proofs.Common.{arith}
use Rattle.region_store.proofs.StoreLaws.{joins}
use Rattle.region_store.proofs.PlaceLaws.{count_high}
use Rattle.region_store.proofs.steps.join_lane.Goals as goal

pub join_seat-requires : goal.join_seat-requires
join_seat-requires c =
    let seat = c.args.seat.now in
    let table = c.args.table.now.shared in
    let lane = c.args.lane in
    (c.requires.on.own, c.requires.on_lane.own, c.requires.on_lane.no_slot, omega (arith, c.requires.on.wide, count_high table.key.shape.regions table.key.shape.room), joins table.key.shape table.key.first.value.items seat.id lane.id seat.me.0 lane.me.0 c.requires.may.0 c.requires.may.1)
