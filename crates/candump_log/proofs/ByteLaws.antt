-- Steps over bytes: what the laws of byte_forms say, as the lemmas here take it, and what a step or a run that found
-- something found.
use Rattle.std.proofs.Common.{◌≡◌, ◌↔◌, ℕ, suc, ◌^◌, ◌<◌, ◌≤◌, Bool, true, List, [], ◌∷◌, ◌++◌, length, get_or, Option, Some, None, refl, arith, inl, inr}
use Rattle.std.specs.Prelude.{take_while}
use Rattle.std.specs.List.{list_all}
use Rattle.std.proofs.lemmas.Bool.{cases_Bool}
use Rattle.std.proofs.lemmas.List.Sums.{take_while-cons}
use Rattle.byte_forms.specs.declared.class.Class.{Class}
use Rattle.byte_forms.specs.declared.numerals.Radix.{Radix}
use Rattle.byte_forms.specs.declared.numerals.Radix.TheVariants as radixes
use Rattle.byte_forms.specs.Classes.{is_in}
use Rattle.byte_forms.specs.Numerals.{is_numeral, number_of, number_up_to}
use Rattle.byte_forms.specs.Pieces.{◌>>=◌, after_literal, field_before, is_end_of}

-- of literals
abbrev pub LiteralLaw : Type 0
LiteralLaw = (literal bytes rest : List ℕ) → (after_literal literal bytes ≡ Some rest) ↔ (bytes ≡ literal ++ rest)

-- of literals and fields
pub record PieceLaw : Type 0 where
  pub literal : LiteralLaw
  pub found : (class : Class) (literal bytes field rest : List ℕ) → field_before class literal bytes ≡ Some (field, rest) → (bytes ≡ field ++ (literal ++ rest)) × (list_all (is_in class) field ≡ true)
  pub there : (class : Class) (literal field rest : List ℕ) → list_all (is_in class) field ≡ true → is_end_of class literal ≡ true → field_before class literal (field ++ (literal ++ rest)) ≡ Some (field, rest)

-- of how many decimal digits there are
abbrev pub CountLaw : Type 0
CountLaw = (text : List ℕ) (count : ℕ) → is_numeral radixes.Decimal text ≡ true → length text ≤ count → number_of radixes.Decimal text < 10 ^ count

-- of numbers by their digits
pub record NumberLaw : Type 0 where
  pub value : (radix : Radix) (limit n : ℕ) (text : List ℕ) → (number_up_to radix limit text ≡ Some n) ↔ ((is_numeral radix text ≡ true) × (n ≡ number_of radix text) × (n ≤ limit))
  pub below : CountLaw

-- the value of a step that gave one
pub bind_some : {A B : Type 0} (r : Option A) (f : A → Option B) (y : B) → (r >>= f) ≡ Some y → (x : A) × (r ≡ Some x) × (f x ≡ Some y)
bind_some (Some x) f y e = (x, refl, e)
bind_some None f y e = absurd cc

-- each element of a run passes
pub list_all-take_while : {X : Type 0} (p : X → Bool) (xs : List X) → list_all p (take_while p xs) ≡ true
list_all-take_while p [] = refl
list_all-take_while p (x ∷ xs) =
    elim (cases_Bool (p x)) [
      | inl holds ↦ rw (take_while-cons, holds, holds) (list_all-take_while p xs)
      | inr fails ↦ rw (take_while-cons, fails) refl
    ]

-- each element passes, by its index
pub list_all_from : (p : ℕ → Bool) (xs : List ℕ) → ((k : ℕ) → k < length xs → p (get_or xs k 0) ≡ true) → list_all p xs ≡ true
list_all_from p [] each = refl
list_all_from p (x ∷ xs) each = rw (each 0 (omega arith)) (list_all_from p xs (λ k lt. each (suc k) (omega arith)))
