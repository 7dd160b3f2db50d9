use Rattle.std.proofs.Common.{◌≡◌, length}
use Rattle.model_tests.proofs.building.marks_of.Given as goal

abbrev pub invariant-loop-row : goal.invariant-loop-row
invariant-loop-row l = length l.marks.items ≡ l.row-index
