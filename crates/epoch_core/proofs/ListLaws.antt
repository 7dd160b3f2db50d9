-- An element of a list is the new one where it was replaced, and the one before elsewhere.
use Rattle.std.proofs.Common.{◌≡◌, ◌≢◌, ℕ, ◌<◌, ◌≤◌, Bool, false, ◌+◌, ◌-◌, List, [], ◌∷◌, ◌++◌, length, replicate, get_or, set, inl, inr, sym, subst, ap, arith, ◌∙◌}
use Rattle.std.specs.List.{All}
use Rattle.std.proofs.lemmas.Bool.Decides.{eqb_tells, leb_tells}
use Rattle.std.proofs.lemmas.Grind.{get_or-set_at}
use Rattle.std.proofs.lemmas.List.{get_or_past, get_or-set_other, replicate_more}

-- what holds of the new element where it is read, and of the others, holds after the element was replaced
pub read_after_set : {X : Type 0} (P : X → Type 0) (xs : List X) (i j : ℕ) (y d : X) → i < length xs → (j ≡ i → P y) → (j ≢ i → P (get_or xs j d)) → P (get_or (set xs i y) j d)
read_after_set P xs i j y d within here there =
    elim (eqb_tells j i) as (λ _. P (get_or (set xs i y) j d)) [
      | inl e ↦ subst P (sym (get_or-set_at xs i j y d e.1 within)) (here e.1)
      | inr e ↦ subst P (sym (get_or-set_other xs i j y d e.1)) (there e.1)
    ]

-- an element that is not the default is in the list
pub is_within : {X : Type 0} (xs : List X) (i : ℕ) (x d : X) → get_or xs i d ≡ x → x ≢ d → i < length xs
is_within xs i x d is other =
    elim (leb_tells (length xs) i) as (λ _. i < length xs) [
      | inl past ↦ absurd (other (sym is ∙ get_or_past xs i d past.1))
      | inr within ↦ within.1
    ]

-- where none is true, each reads as false, past the end too
pub none_reads : (row : List Bool) (i : ℕ) → All (λ is. is ≡ false) row → get_or row i false ≡ false
none_reads row i none =
    elim (leb_tells (length row) i) as (λ _. get_or row i false ≡ false) [
      | inl past ↦ get_or_past row i false past.1
      | inr within ↦ none i false within.1
    ]

-- one more after a first element and the repeated ones
pub one_more : {X : Type 0} (x y : X) (n : ℕ) → 1 ≤ n → (x ∷ replicate (n - 1) y) ++ y ∷ [] ≡ x ∷ replicate (n + 1 - 1) y
one_more {X} x y n h =
    let e : n - 1 + 1 ≡ n + 1 - 1 = omega arith in
    ap (λ (l : List X). x ∷ l) (replicate_more (n - 1) y) ∙ ap (λ (k : ℕ). x ∷ replicate k y) e
