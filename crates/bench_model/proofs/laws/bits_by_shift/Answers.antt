use Rattle.bench_model.proofs.ShiftLaws as shift
use Rattle.bench_model.proofs.WindowLaws as window
use Rattle.bench_model.proofs.WithinLaws as within
use Rattle.bench_model.proofs.SignLaws as sign
use Rattle.bench_model.proofs.laws.bits_by_shift.Goals as goal

pub returns-clause-little : goal.returns-clause-little
returns-clause-little c = shift.intel_by_shift

pub returns-clause-big : goal.returns-clause-big
returns-clause-big c = shift.motorola_by_shift

pub returns-clause-window : goal.returns-clause-window
returns-clause-window c = window.window

pub returns-clause-nine : goal.returns-clause-nine
returns-clause-nine c = window.nine

pub returns-clause-within : goal.returns-clause-within
returns-clause-within c = within.within

pub returns-clause-last : goal.returns-clause-last
returns-clause-last c = within.last

pub returns-clause-sign : goal.returns-clause-sign
returns-clause-sign c = sign.sign

pub returns-clause-complement : goal.returns-clause-complement
returns-clause-complement c = sign.complement
