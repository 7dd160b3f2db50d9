-- The state is the first one, and that keeps the rule.
use Rattle.epoch_core.proofs.FirstLaws.{first_kept}
use Rattle.epoch_core.proofs.state.State.first.Goals as goal

pub invariant_of-state : goal.invariant_of-state
invariant_of-state c =
    rw (
      c.in_ok-repeat.ensures,
      c.in_ok-first_regions.ensures,
      c.in_ok-repeat-2.ensures,
      c.in_ok-first_images.ensures,
      c.in_ok-repeat-3.ensures,
      c.in_ok-first_clearings.ensures,
    )
    (first_kept c.args.regions c.args.lanes c.args.image.now c.requires)
