use Rattle.epoch_core.proofs.ScheduleLaws.{held_not_stored, held_words_stay, reached_kept}
use Rattle.epoch_core.proofs.laws.a_held_region_is_not_stored.Goals as goal

pub returns-clause-words : goal.returns-clause-words
returns-clause-words c = λ m step lane epoch version region reached.
    held_words_stay m step lane epoch version region (reached_kept m reached)

pub returns-clause-not_stored : goal.returns-clause-not_stored
returns-clause-not_stored c = λ m lane epoch version region place word reached.
    held_not_stored m lane epoch version region place word (reached_kept m reached)
