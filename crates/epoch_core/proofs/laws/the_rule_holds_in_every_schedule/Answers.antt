use Rattle.epoch_core.specs.Machine.{first}
use Rattle.epoch_core.proofs.FirstLaws.{first_kept}
use Rattle.epoch_core.proofs.ScheduleLaws.{all_kept}
use Rattle.epoch_core.proofs.laws.the_rule_holds_in_every_schedule.Goals as goal

pub returns-clause-first : goal.returns-clause-first
returns-clause-first c = first_kept

pub returns-clause-every : goal.returns-clause-every
returns-clause-every c = λ regions lanes image steps limits allowed.
    all_kept (first regions lanes image) steps allowed (first_kept regions lanes image limits)
