use Rattle.std.proofs.Common.{ap, ◌∙◌, ◌+◌, refl}
use Rattle.gap_ring.proofs.TakingLaws.{turned, turn_made}
use Rattle.gap_ring.proofs.taker.Taker.turn.Goals as goal

pub invariant_of-self-clause-rests : goal.invariant_of-self-clause-rests
invariant_of-self-clause-rests c =
    let me = c.args.self.now in
    let e = c.store_attach.ensures in
    (turned me.progress (me.progress.attach + 1) me.seat.me.0 c.store_attach.new.seat.me.0 me.rests.0 refl (ap (λ m. m.0) e.stored), ap (λ m. m.1) e.stored ∙ me.rests.1)

pub returns-clause-made : goal.returns-clause-made
returns-clause-made c =
    let me = c.args.self.now in
    let e = c.store_attach.ensures in
    turn_made me.progress (me.progress.attach + 1) me.seat.me.0 c.store_attach.new.seat.me.0 me.rests.0 refl (ap (λ m. m.0) e.stored)
