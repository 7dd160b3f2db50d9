use Rattle.std.proofs.Common.{arith}
use Rattle.gap_ring.proofs.StoreLaws.{stores_gap}
use Rattle.gap_ring.proofs.steps.store_gap.Goals as goal

pub store-requires : goal.store-requires
store-requires c =
    let seat = c.args.seat.now in
    let ring = c.args.ring.now.shared in
    (c.requires.on.0, grind (arith, c.requires.on.1, c.requires.may.1), stores_gap ring.key ring.table_id.slots seat.id c.args.value c.args.word seat.me c.requires.may.0 c.requires.may.1)
