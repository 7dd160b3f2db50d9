use Rattle.std.proofs.Common.{refl}
use Rattle.multiplex_tree.specs.Chain.{ancestor}
use Rattle.multiplex_tree.proofs.ActivityLaws.{top, selected, passed_over, way_up, way_end}
use Rattle.multiplex_tree.proofs.laws.activity_by_steps.Goals as goal

pub returns-clause-begins : goal.returns-clause-begins
unfolding ancestor
returns-clause-begins c = λ parents i. refl

pub returns-clause-goes_on : goal.returns-clause-goes_on
returns-clause-goes_on c = way_up

pub returns-clause-ends : goal.returns-clause-ends
returns-clause-ends c = way_end

pub returns-clause-top : goal.returns-clause-top
returns-clause-top c = top

pub returns-clause-selected : goal.returns-clause-selected
returns-clause-selected c = selected

pub returns-clause-passed_over : goal.returns-clause-passed_over
returns-clause-passed_over c = passed_over
