use Rattle.std.proofs.Common.{◌≤◌, ◌-◌, length}
use Rattle.multiplex_tree.specs.FarAbove.{AreAncestors}
use Rattle.multiplex_tree.proofs.chain.far_above.Given as goal

abbrev pub invariant-loop-steps : goal.invariant-loop-steps
invariant-loop-steps l = record {
  some : 1 ≤ l.steps;
  far : AreAncestors l.parents l.steps l.far.items;
}

abbrev pub decreases-loop-steps : goal.decreases-loop-steps
decreases-loop-steps l = length l.parents - l.steps
