use Rattle.std.proofs.Common.{All}
use Rattle.bench_model.specs.Limits.{IsLabel}
use Rattle.model_tests.proofs.checks.edges.labels_of.Given as goal

abbrev pub invariant-loop-label : goal.invariant-loop-label
invariant-loop-label l = All IsLabel l.labels.items
