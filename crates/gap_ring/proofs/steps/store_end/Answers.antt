use Rattle.std.proofs.Common.{arith}
use Rattle.gap_ring.proofs.StoreLaws.{stores_end}
use Rattle.gap_ring.proofs.steps.store_end.Goals as goal

pub store-requires : goal.store-requires
store-requires c =
    let seat = c.args.seat.now in
    let ring = c.args.ring.now.shared in
    (c.requires.on.0, omega (arith, c.requires.on.1), stores_end ring.key ring.table_id.slots seat.id c.args.value seat.me c.requires.may.0 c.requires.count c.requires.may.1 c.requires.gap c.requires.fits)
