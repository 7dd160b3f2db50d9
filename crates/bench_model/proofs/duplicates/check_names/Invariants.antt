use Rattle.bench_model.specs.declared.fault.CheckWhy.TheVariants.{DuplicateSignal}
use Rattle.bench_model.proofs.CheckLaws.{MessagesKeep}
use Rattle.bench_model.proofs.duplicates.check_names.Given as goal

-- the messages so far keep the rule
abbrev pub invariant-loop-message : goal.invariant-loop-message
invariant-loop-message l = MessagesKeep DuplicateSignal l.messages l.message-index
