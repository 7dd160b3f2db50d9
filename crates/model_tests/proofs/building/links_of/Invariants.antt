use Rattle.std.proofs.Common.{◌<◌, All}
use Rattle.model_tests.proofs.building.links_of.Given as goal

abbrev pub invariant-loop-child : goal.invariant-loop-child
invariant-loop-child l = All (λ link. link.child < l.count) l.links.items
