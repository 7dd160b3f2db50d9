use Rattle.multiplex_tree.proofs.ActivityLaws.{tree_without_parents, active_without_parents}
use Rattle.multiplex_tree.proofs.laws.signals_without_parents.Goals as goal

pub returns-clause-tree : goal.returns-clause-tree
returns-clause-tree c = tree_without_parents

pub returns-clause-active : goal.returns-clause-active
returns-clause-active c = active_without_parents
