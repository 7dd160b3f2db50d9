use Rattle.std.proofs.Common.{refl}
use Rattle.multiplex_tree.specs.Chain.{most_parents}
use Rattle.multiplex_tree.specs.Activity.{is_active}
use Rattle.multiplex_tree.proofs.ActivityLaws.{top, active_below, test_is_relation}
use Rattle.multiplex_tree.proofs.laws.activity_by_parents.Goals as goal

pub returns-clause-top : goal.returns-clause-top
returns-clause-top c = λ parents raws i e. top parents raws most_parents i e

pub returns-clause-below : goal.returns-clause-below
returns-clause-below c = λ parents raws i p shallow e. active_below parents raws 7 i p (shallow i) e

pub returns-clause-relation : goal.returns-clause-relation
returns-clause-relation c = λ parents raws i shallow. test_is_relation parents raws i (is_active parents raws i) shallow refl
