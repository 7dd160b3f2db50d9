-- Questions that have one answer: what is made of a thing, or why nothing is made of it.
use Rattle.std.specs.Prelude.{◌≡◌, ◌⊎◌}

-- each thing makes one value or fails for one reason, and never both
pub record Decides {A B C : Type 0} (Makes : A → B → Type 0) (Fails : A → C → Type 0) : Type 0 where
  pub some : (x : A) → ((y : B) × Makes x y) ⊎ ((c : C) × Fails x c)
  pub one : (x : A) (y z : B) → Makes x y → Makes x z → y ≡ z
  pub only : (x : A) (c d : C) → Fails x c → Fails x d → c ≡ d
  pub apart : (x : A) (y : B) (c : C) → Makes x y → Fails x c → ⊥
