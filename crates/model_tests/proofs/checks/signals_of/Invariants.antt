use Rattle.std.proofs.Common.{All}
use Rattle.bench_model.specs.Limits.{IsCoding}
use Rattle.model_tests.proofs.checks.signals_of.Given as goal

abbrev pub invariant-loop-row : goal.invariant-loop-row
invariant-loop-row l = All (λ s. IsCoding s.coding) l.signals.items
