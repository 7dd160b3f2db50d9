use Rattle.bench_model.specs.declared.fault.CheckWhy.TheVariants.{DuplicateSignal}
use Rattle.bench_model.proofs.CheckLaws.{SignalsKeep}
use Rattle.bench_model.proofs.DuplicateLaws.{AreNamesSeen}
use Rattle.bench_model.proofs.duplicates.check_names_of.Given as goal

-- the signals so far keep the rule, and the set has their names
abbrev pub invariant-loop-signal : goal.invariant-loop-signal
invariant-loop-signal l = record {
  keep : SignalsKeep DuplicateSignal l.message l.signal-index;
  seen : AreNamesSeen l.seen l.message.signals l.signal-index;
}
