-- What the search for chains that never end keeps.
use Rattle.std.specs.Prelude.{◌≡◌, ℕ, ◌<◌, List, length, Option, IsSome, IsNone}
use Rattle.multiplex_tree.specs.Chain.{parent_in, ancestor}

-- the first of n places at which there is something
pub record IsFirstSome (n : ℕ) (f : ℕ → Option ℕ) (place : ℕ) : Type 0 where
  pub within : place < n
  pub here : IsSome (f place)
  pub first : (i : ℕ) → i < place → IsNone (f i)

-- for each signal the one m steps above it
pub record AreAncestors (ups : List (Option ℕ)) (m : ℕ) (far : List (Option ℕ)) : Type 0 where
  pub number : length far ≡ length ups
  pub each : (i : ℕ) → parent_in far i ≡ ancestor ups m i

-- for each signal the one above it by more steps than there are signals
pub record AreFarAbove (ups : List (Option ℕ)) (far : List (Option ℕ)) : Type 0 where
  pub steps : ℕ
  pub many : length ups < steps
  pub are_ancestors : AreAncestors ups steps far
