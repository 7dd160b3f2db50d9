use Rattle.std.proofs.Common.{◌≡◌, ◌-◌, Some}
use Rattle.multiplex_tree.specs.Chain.{most_parents, signals_above, ancestor}
use Rattle.multiplex_tree.specs.Activity.{is_active_within}
use Rattle.multiplex_tree.proofs.tree.is_selected.Given as goal

-- Each parent on the way up selects the signal below it, so that the one reached decides.
abbrev pub invariant-loop : goal.invariant-loop
invariant-loop l = record {
  way : ancestor (signals_above l.parents) l.counter l.signal ≡ Some l.place;
  decides : is_active_within most_parents l.parents l.raws l.signal ≡ is_active_within (most_parents - l.counter) l.parents l.raws l.place;
}
