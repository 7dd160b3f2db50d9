use Rattle.std.proofs.Common.{arith}
use Rattle.gap_ring.proofs.PutLaws.{reaches}
use Rattle.gap_ring.proofs.steps.reach.Goals as goal

pub load-requires : goal.load-requires
load-requires c =
    let seat = c.args.seat.now in
    let ring = c.args.ring.now.shared in
    (c.requires.on.0, omega (arith, c.requires.on.1), reaches ring.key ring.table_id.slots seat.id seat.me c.requires.may.0 c.requires.may.1)
