use Rattle.bench_model.specs.declared.fault.CheckWhy.TheVariants.{Limit}
use Rattle.bench_model.proofs.CheckLaws.{MessagesKeep}
use Rattle.bench_model.proofs.limits.check_limits.Given as goal

-- the messages so far keep the rule
abbrev pub invariant-loop-message : goal.invariant-loop-message
invariant-loop-message l = MessagesKeep Limit l.messages l.message-index
