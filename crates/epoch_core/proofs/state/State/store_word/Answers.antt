-- The rule is kept, since the new state is the one after the step.
use Rattle.epoch_core.proofs.LoaderLaws.{store_word_kept}
use Rattle.epoch_core.proofs.state.State.store_word.Goals as goal

pub invariant_of-self-2 : goal.invariant_of-self-2
invariant_of-self-2 c =
    rw c.in_ok-store_in.ensures.ok
    (store_word_kept _ c.args.region c.args.place c.args.word (rw (← c.self.view_is) at c.requires) c.self.invariant)
