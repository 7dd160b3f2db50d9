use Rattle.std.proofs.Common.{All}
use Rattle.bench_model.specs.Limits.{IsEntry}
use Rattle.model_tests.proofs.building.entries_of.Given as goal

abbrev pub invariant-loop-row : goal.invariant-loop-row
invariant-loop-row l = All IsEntry l.entries.items
