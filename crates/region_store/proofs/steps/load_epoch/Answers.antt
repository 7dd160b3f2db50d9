use Rattle.std.proofs.Common.{arith}
use Rattle.region_store.proofs.LaneLaws.{sees_epoch}
use Rattle.region_store.proofs.PlaceLaws.{count_high}
use Rattle.region_store.proofs.steps.load_epoch.Goals as goal

pub load-requires : goal.load-requires
load-requires c =
    let seat = c.args.seat.now in
    let table = c.args.table.now.shared in
    (c.requires.on.own, omega (arith, c.requires.on.wide, count_high table.key.shape.regions table.key.shape.room), sees_epoch c.the_rule_holds_in_every_schedule.ensures.every table.key.shape table.key.first.value.items table.table_id.slots seat.id seat.me c.requires.may)
