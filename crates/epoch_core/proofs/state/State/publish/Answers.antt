-- The rule is kept, since the new state is the one after the step.
use Rattle.std.proofs.Common.{◌≡◌, [], length, get_or, arith}
use Rattle.epoch_core.proofs.LoaderLaws.{publish_kept}
use Rattle.epoch_core.proofs.state.State.publish.Goals as goal

pub invariant_of-self-2 : goal.invariant_of-self-2
invariant_of-self-2 c =
    let may = rw (← c.self.view_is) at c.requires in
    let by_lane : length (get_or c.self.inside.cleared c.args.region []) ≡ length c.self.inside.lanes =
    c.self.invariant.well_formed.by_lane c.args.region [] (omega (arith, may.0, c.self.invariant.well_formed.cleared)) in
    rw (c.clear_in.ensures, by_lane, c.set-2.ensures, c.set.ensures, c.in_ok-push.ensures.ok, c.in_ok-image.ensures)
    (publish_kept _ c.args.region c.args.length may c.self.invariant)
