use Rattle.std.proofs.Common.{arith}
use Rattle.region_store.proofs.StoreLaws.{splits}
use Rattle.region_store.proofs.PlaceLaws.{count_high}
use Rattle.region_store.proofs.steps.split_lane.Goals as goal

pub split_seat-requires : goal.split_seat-requires
split_seat-requires c =
    let seat = c.args.seat.now in
    let table = c.args.table.now.shared in
    (c.requires.on.own, omega (arith, c.requires.on.wide, count_high table.key.shape.regions table.key.shape.room), splits table.key.shape table.key.first.value.items seat.id seat.me.0 c.requires.loader.0 c.requires.loader.1 c.requires.more)
