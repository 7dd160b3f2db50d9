use Rattle.multiplex_tree.proofs.TreeLaws.{tree_over, tree_made}
use Rattle.multiplex_tree.proofs.laws.trees_of_marks.Goals as goal

pub returns-clause-over : goal.returns-clause-over
returns-clause-over c = tree_over

pub returns-clause-made : goal.returns-clause-made
returns-clause-made c = tree_made
