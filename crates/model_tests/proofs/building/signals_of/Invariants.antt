use Rattle.std.proofs.Common.{◌≡◌, length, All}
use Rattle.bench_model.specs.Limits.{IsCoding}
use Rattle.model_tests.proofs.building.signals_of.Given as goal

abbrev pub invariant-loop-row : goal.invariant-loop-row
invariant-loop-row l = record {
  number : length l.signals.items ≡ l.row-index;
  codings : All (λ s. IsCoding s.coding) l.signals.items;
}
