use Rattle.region_store.proofs.LaneLaws.{stores_pin}
use Rattle.region_store.proofs.steps.store_pin.Goals as goal

pub store-requires : goal.store-requires
store-requires c =
    let seat = c.args.seat.now in
    let table = c.args.table.now.shared in
    (c.requires.on.own, c.requires.inside, stores_pin c.the_rule_holds_in_every_schedule.ensures.every table.key.shape table.key.first.value.items table.table_id.slots seat.id c.args.word c.args.pin c.requires.may.0 seat.me c.requires.may.1)
