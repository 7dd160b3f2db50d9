use Rattle.epoch_core.proofs.ScheduleLaws.{versions_grow, images_stay, reached_kept}
use Rattle.epoch_core.proofs.laws.a_version_never_goes_down.Goals as goal

pub returns-clause-version : goal.returns-clause-version
returns-clause-version c = versions_grow

pub returns-clause-image : goal.returns-clause-image
returns-clause-image c = λ m steps version reached. images_stay m steps version (reached_kept m reached)
