use Rattle.std.proofs.Common.{refl, inl}
use Rattle.epoch_core.specs.Machine.{first}
use Rattle.epoch_core.proofs.FirstLaws.{first_kept}
use Rattle.epoch_core.proofs.UseLaws.{was_unused}
use Rattle.epoch_core.proofs.laws.a_region_not_retired_was_never_published.Goals as goal

pub returns : goal.returns
returns c = λ regions lanes image steps region limits allowed other never.
    let unused = was_unused (first regions lanes image) steps region allowed
    (first_kept regions lanes image limits) other never in
    (λ zero. unused.0 (inl zero), unused.1)
