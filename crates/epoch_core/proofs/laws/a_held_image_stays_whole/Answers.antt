use Rattle.epoch_core.proofs.ScheduleLaws.{held_whole, reached_kept}
use Rattle.epoch_core.proofs.laws.a_held_image_stays_whole.Goals as goal

pub returns : goal.returns
returns c = λ m steps lane epoch version region reached.
    held_whole m steps lane epoch version region (reached_kept m reached)
