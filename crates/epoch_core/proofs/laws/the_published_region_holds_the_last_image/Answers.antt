use Rattle.epoch_core.proofs.ScheduleLaws.{reached_kept}
use Rattle.epoch_core.proofs.laws.the_published_region_holds_the_last_image.Goals as goal

pub returns-clause-count : goal.returns-clause-count
returns-clause-count c = λ m reached. (reached_kept m reached).published.0

pub returns-clause-words : goal.returns-clause-words
returns-clause-words c = λ m reached. (reached_kept m reached).published.1
