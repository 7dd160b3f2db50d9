-- The rule is kept, since the new state is the one after the step.
use Rattle.epoch_core.proofs.LaneLaws.{let_go_kept}
use Rattle.epoch_core.proofs.state.State.let_go.Goals as goal

pub invariant_of-self : goal.invariant_of-self
invariant_of-self c = rw (c.set.ensures, c.set-2.ensures) (let_go_kept _ c.args.lane (rw (← c.self.view_is) at c.requires) c.self.invariant)
