-- The rule is kept, since the new state is the one after the step.
use Rattle.epoch_core.proofs.LaneLaws.{take_hold_kept}
use Rattle.epoch_core.proofs.state.State.take_hold.Goals as goal

pub invariant_of-self : goal.invariant_of-self
invariant_of-self c =
    rw (c.set.ensures, c.epoch-epoch.ensures, c.lane.ensures, ← c.self.view_is)
    (take_hold_kept _ c.args.lane (rw (← c.self.view_is) at c.requires) c.self.invariant)
