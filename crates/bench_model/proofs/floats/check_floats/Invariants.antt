use Rattle.bench_model.specs.declared.fault.CheckWhy.TheVariants.{Float}
use Rattle.bench_model.proofs.CheckLaws.{MessagesKeep}
use Rattle.bench_model.proofs.floats.check_floats.Given as goal

-- the messages so far keep the rule
abbrev pub invariant-loop-message : goal.invariant-loop-message
invariant-loop-message l = MessagesKeep Float l.messages l.message-index
