use Rattle.std.proofs.Common.{arith}
use Rattle.gap_ring.proofs.TakeLaws.{sees_gap}
use Rattle.gap_ring.proofs.steps.load_gap.Goals as goal

pub load-requires : goal.load-requires
load-requires c =
    let seat = c.args.seat.now in
    let ring = c.args.ring.now.shared in
    (c.requires.on.0, grind (arith, c.requires.on.1, c.requires.may.1), sees_gap ring.key ring.table_id.slots seat.id c.args.word seat.me c.requires.may.0 c.requires.may.1)
