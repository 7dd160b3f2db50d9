use Rattle.std.proofs.Common.{All}
use Rattle.bench_model.specs.Limits.{IsMade}
use Rattle.model_tests.proofs.checks.edges.messages_at.Given as goal

abbrev pub invariant-loop-place : goal.invariant-loop-place
invariant-loop-place l = All IsMade l.messages.items
