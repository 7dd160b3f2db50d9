use Rattle.region_store.proofs.LaneLaws.{sees_word}
use Rattle.region_store.proofs.steps.load_word.Goals as goal

pub load-requires : goal.load-requires
load-requires c =
    let seat = c.args.seat.now in
    let table = c.args.table.now.shared in
    let may = c.requires.may in
    (c.requires.on.own, c.requires.inside, sees_word c.the_rule_holds_in_every_schedule.ensures.every table.key.shape table.key.first.value.items table.table_id.slots seat.id c.args.word may.0 may.1.0 may.1.1.0 may.1.1.1.0 may.1.1.1.1.0 seat.me may.1.1.1.1.1)
