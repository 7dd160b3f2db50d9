use Rattle.std.proofs.Common.{◌≡◌, ◌-◌, ◌≤◌, length}
use Rattle.std.specs.Prelude.{replicate, None}
use Rattle.ldf_grammar.proofs.messages.tree_without_parents.Given as goal

abbrev pub invariant-loop-parents : goal.invariant-loop-parents
invariant-loop-parents l = record {
  none : l.parents.items ≡ replicate (length l.parents.items) None;
  within : length l.parents.items ≤ l.count;
}

abbrev pub decreases-loop-parents : goal.decreases-loop-parents
decreases-loop-parents l = l.count - length l.parents.items
