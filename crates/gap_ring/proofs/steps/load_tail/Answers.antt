use Rattle.std.proofs.Common.{arith}
use Rattle.gap_ring.proofs.TakeLaws.{sees_tail}
use Rattle.gap_ring.proofs.steps.load_tail.Goals as goal

pub load-requires : goal.load-requires
load-requires c =
    let seat = c.args.seat.now in
    let ring = c.args.ring.now.shared in
    (c.requires.on.0, omega (arith, c.requires.on.1), sees_tail ring.key ring.table_id.slots seat.id seat.me c.requires.may.0 c.requires.may.1)
