use Rattle.std.proofs.Common.{◌≡◌, ◌++◌, drop}
use Rattle.std.specs.Option.{option_to_list}
use Rattle.multiplex_tree.specs.Parents.{selectors_from, selectors}
use Rattle.multiplex_tree.proofs.parents.selector_of.Given as goal

-- The one found so far and those among the marks that are left are all.
abbrev pub invariant-loop-signal : goal.invariant-loop-signal
invariant-loop-signal l = selectors l.marks ≡ option_to_list l.found ++ selectors_from l.signal (drop l.signal l.marks)
