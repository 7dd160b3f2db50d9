use Rattle.bench_model.specs.declared.fault.CheckWhy.TheVariants.{Size}
use Rattle.bench_model.proofs.CheckLaws.{SignalsKeep}
use Rattle.bench_model.proofs.sizes.check_size.Given as goal

-- the signals so far keep the rule
abbrev pub invariant-loop-signal : goal.invariant-loop-signal
invariant-loop-signal l = SignalsKeep Size l.message l.signal-index
