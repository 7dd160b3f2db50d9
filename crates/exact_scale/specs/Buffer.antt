-- What an append that gave up half-way leaves.
use Rattle.std.specs.Prelude.{◌≡◌, ℕ, List, ◌++◌}

-- the old bytes still come first
pub record Extends (old new : List ℕ) : Type 0 where
  pub added : List ℕ
  pub joined : new ≡ old ++ added
