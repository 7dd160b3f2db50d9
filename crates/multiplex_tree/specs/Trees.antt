-- Which lists of parents are trees of a message's signals, whatever marks and links made them.
use Rattle.std.specs.Prelude.{◌≡◌, ◌<◌, ℕ, List, length, Option, Some}
use Rattle.multiplex_tree.specs.declared.mark.Parent.{Parent}
use Rattle.multiplex_tree.specs.Activity.{parent_at}
use Rattle.multiplex_tree.specs.Chain.{signals_above, IsShallow}

-- the parents of n signals: each is one of these signals, and no more are above a signal than are allowed
pub record IsTreeOver (n : ℕ) (parents : List (Option Parent)) : Type 0 where
  pub number : length parents ≡ n
  pub within : (i : ℕ) (p : Parent) → parent_at parents i ≡ Some p → p.signal < n
  pub shallow : IsShallow (signals_above parents)
