use Rattle.std.proofs.Common.{ap, ◌∙◌, refl, add-one}
use Rattle.multiplex_tree.specs.Chain.{ancestor, next_up}
use Rattle.multiplex_tree.proofs.chain.nth_above.Goals as goal

pub loop-init : goal.loop-init
unfolding ancestor
loop-init c = refl

pub loop-preserved : goal.loop-preserved
unfolding ancestor
loop-preserved c = rw add-one (c.above-place.ensures ∙ ap (next_up c.args.parents.now) c.loop.invariant)
