use Rattle.multiplex_tree.proofs.ExistenceLaws.{tree_or_fault}
use Rattle.multiplex_tree.proofs.UniqueLaws.{same_tree, same_fault, tree_without_fault}
use Rattle.multiplex_tree.proofs.laws.resolution_is_unique.Goals as goal

pub returns-clause-some : goal.returns-clause-some
returns-clause-some c = tree_or_fault

pub returns-clause-tree : goal.returns-clause-tree
returns-clause-tree c = same_tree

pub returns-clause-fault : goal.returns-clause-fault
returns-clause-fault c = same_fault

pub returns-clause-never_both : goal.returns-clause-never_both
returns-clause-never_both c = tree_without_fault
