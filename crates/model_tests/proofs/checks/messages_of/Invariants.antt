use Rattle.std.proofs.Common.{All}
use Rattle.bench_model.specs.Limits.{IsMade}
use Rattle.model_tests.proofs.checks.messages_of.Given as goal

abbrev pub invariant-loop-row : goal.invariant-loop-row
invariant-loop-row l = All IsMade l.messages.items
