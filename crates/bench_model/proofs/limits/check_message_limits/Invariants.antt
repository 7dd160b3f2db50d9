use Rattle.bench_model.specs.declared.fault.CheckWhy.TheVariants.{Limit}
use Rattle.bench_model.proofs.CheckLaws.{SignalsKeep}
use Rattle.bench_model.proofs.limits.check_message_limits.Given as goal

-- the signals so far keep the rule
abbrev pub invariant-loop-place : goal.invariant-loop-place
invariant-loop-place l = SignalsKeep Limit l.message l.place
