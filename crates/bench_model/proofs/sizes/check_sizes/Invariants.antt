use Rattle.bench_model.specs.declared.fault.CheckWhy.TheVariants.{Size}
use Rattle.bench_model.proofs.CheckLaws.{MessagesKeep}
use Rattle.bench_model.proofs.sizes.check_sizes.Given as goal

-- the messages so far keep the rule
abbrev pub invariant-loop-message : goal.invariant-loop-message
invariant-loop-message l = MessagesKeep Size l.messages l.message-index
