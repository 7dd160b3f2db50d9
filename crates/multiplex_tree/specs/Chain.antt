-- Chains of parents, over the list that has each signal's parent, where it has one.
use Rattle.std.specs.Prelude.{◌≡◌, ℕ, ◌+◌, zero, suc, List, map, Option, Some, None, IsSome, IsNone, slice_get}
use Rattle.std.specs.Option.{option_flatten, option_map}
use Rattle.multiplex_tree.specs.declared.mark.Parent.{Parent}

-- the signals that are the parents
abbrev pub signals_above : List (Option Parent) → List (Option ℕ)
signals_above parents = map (option_map (λ p. p.signal)) parents

-- the parent of a signal
abbrev pub parent_in : List (Option ℕ) → ℕ → Option ℕ
parent_in ups i = option_flatten (slice_get ups i)

-- the same of a signal that may not be there
abbrev pub next_up : List (Option ℕ) → Option ℕ → Option ℕ
next_up ups None = None
next_up ups (Some i) = parent_in ups i

-- the n-th signal above: itself at 0, its parent at 1, that one's parent at 2, where the chain reaches so far
unfoldable pub ancestor : List (Option ℕ) → ℕ → ℕ → Option ℕ
ancestor ups zero i = Some i
ancestor ups (suc n) i = next_up ups (ancestor ups n i)

-- the chain of a signal ends where it has no parent, or where its parent's chain ends
pub data Ends (ups : List (Option ℕ)) : ℕ → Type 0 where
  at_end : {i : ℕ} → parent_in ups i ≡ None → Ends ups i
  further_up : {i : ℕ} (p : ℕ) → parent_in ups i ≡ Some p → Ends ups p → Ends ups i

-- no finite chain of parents from the signal reaches a signal without parent
abbrev pub NeverEnds : List (Option ℕ) → ℕ → Type 0
NeverEnds ups i = ¬ Ends ups i

-- how many parents may be above a signal: a limit of this project
abbrev pub most_parents : ℕ
most_parents = 8

-- more parents than that are above the signal
abbrev pub IsDeep : List (Option ℕ) → ℕ → Type 0
IsDeep ups i = IsSome (ancestor ups (most_parents + 1) i)

-- at most so many parents are above each signal
abbrev pub IsShallow : List (Option ℕ) → Type 0
IsShallow ups = (i : ℕ) → IsNone (ancestor ups (most_parents + 1) i)
