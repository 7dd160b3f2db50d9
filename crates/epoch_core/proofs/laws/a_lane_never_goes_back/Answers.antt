use Rattle.epoch_core.proofs.ScheduleLaws.{never_back, never_behind, reached_kept}
use Rattle.epoch_core.proofs.laws.a_lane_never_goes_back.Goals as goal

pub returns-clause-held : goal.returns-clause-held
returns-clause-held c = λ m steps lane epoch version region later next place reached.
    never_back m steps lane epoch version region later next place (reached_kept m reached)

pub returns-clause-published : goal.returns-clause-published
returns-clause-published c = never_behind
