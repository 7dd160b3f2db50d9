use Rattle.bench_model.specs.declared.fault.CheckWhy.TheVariants.{DuplicateMessage}
use Rattle.bench_model.proofs.CheckLaws.{MessagesKeep}
use Rattle.bench_model.proofs.DuplicateLaws.{AreKeysSeen}
use Rattle.bench_model.proofs.duplicates.check_keys.Given as goal

-- the messages so far keep the rule, and the set has their keys
abbrev pub invariant-loop-message : goal.invariant-loop-message
invariant-loop-message l = record {
  keep : MessagesKeep DuplicateMessage l.messages l.message-index;
  seen : AreKeysSeen l.seen l.messages l.message-index;
}
