use Rattle.multiplex_tree.proofs.UniqueLaws.{tree_answered, fault_answered}
use Rattle.multiplex_tree.proofs.TreeLaws.{resolved_over}
use Rattle.multiplex_tree.proofs.tree.resolve.Goals as goal

pub returns-clause-every_tree : goal.returns-clause-every_tree
returns-clause-every_tree c = tree_answered c.args.marks.now c.args.links.now c.tree_of.result c.tree_of.ensures.tree c.tree_of.ensures.fault

pub returns-clause-every_fault : goal.returns-clause-every_fault
returns-clause-every_fault c = fault_answered c.args.marks.now c.args.links.now c.tree_of.result c.tree_of.ensures.tree c.tree_of.ensures.fault

pub returns-clause-over : goal.returns-clause-over
returns-clause-over c = resolved_over c.args.marks.now c.args.links.now c.tree_of.result c.tree_of.ensures.tree
