use Rattle.std.proofs.Common.{All}
use Rattle.bench_model.specs.Limits.{IsEntry}
use Rattle.model_tests.proofs.checks.edges.listed_coding.Given as goal

abbrev pub invariant-loop-entry : goal.invariant-loop-entry
invariant-loop-entry l = All IsEntry l.entries.items
