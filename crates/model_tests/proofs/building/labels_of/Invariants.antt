use Rattle.std.proofs.Common.{All}
use Rattle.bench_model.specs.Limits.{IsLabel}
use Rattle.model_tests.proofs.building.labels_of.Given as goal

abbrev pub invariant-loop-raw : goal.invariant-loop-raw
invariant-loop-raw l = All IsLabel l.labels.items
