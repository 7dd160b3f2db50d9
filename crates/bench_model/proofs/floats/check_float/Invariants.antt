use Rattle.bench_model.specs.declared.fault.CheckWhy.TheVariants.{Float}
use Rattle.bench_model.proofs.CheckLaws.{SignalsKeep}
use Rattle.bench_model.proofs.floats.check_float.Given as goal

-- the signals so far keep the rule
abbrev pub invariant-loop-signal : goal.invariant-loop-signal
invariant-loop-signal l = SignalsKeep Float l.message l.signal-index
