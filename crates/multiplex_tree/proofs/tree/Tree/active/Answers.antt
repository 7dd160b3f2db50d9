use Rattle.std.proofs.Common.{◌∙◌, ap, List, Option}
use Rattle.multiplex_tree.specs.declared.mark.Parent.{Parent}
use Rattle.multiplex_tree.specs.Activity.{is_active}
use Rattle.multiplex_tree.proofs.ActivityLaws.{test_is_relation}
use Rattle.multiplex_tree.proofs.tree.Tree.active.Goals as goal

pub returns-clause-relation : goal.returns-clause-relation
returns-clause-relation c =
    test_is_relation c.args.self.now.parents c.args.raws.now c.args.signal _ c.requires.shallow
    (c.is_selected.ensures ∙ ap (λ (parents : List (Option Parent)). is_active parents c.args.raws.now c.args.signal) c.items.ensures)
