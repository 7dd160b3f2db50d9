use Rattle.std.proofs.Common.{All}
use Rattle.bench_model.specs.Limits.{IsCoding}
use Rattle.model_tests.proofs.checks.edges.signals_at.Given as goal

abbrev pub invariant-loop-place : goal.invariant-loop-place
invariant-loop-place l = All (λ s. IsCoding s.coding) l.signals.items
