-- The longest run of a class at the front of a text, and what follows it.
use Rattle.std.proofs.Common.{◌≡◌, ℕ, zero, suc, ◌+◌, ◌<◌, Bool, true, false, cond, List, [], ◌∷◌, ◌++◌, length, get_or, refl, ap, arith, inl, inr}
use Rattle.std.specs.Prelude.{take_while, ◌==◌}
use Rattle.std.specs.List.{list_all, prefix_len}
use Rattle.std.proofs.lemmas.Bool.{cases_Bool, and_parts}
use Rattle.std.proofs.Math.Dec.{eqb-suc-suc, eqb-zero-suc}
use Rattle.std.proofs.lemmas.List.{take-append-drop}
use Rattle.std.proofs.lemmas.List.Sums.{take_while-cons}
use Rattle.byte_forms.specs.Classes.{drop_while}

pub drop_while-cons : {X : Type 0} (p : X → Bool) (x : X) (xs : List X) → drop_while p (x ∷ xs) ≡ cond (p x) (drop_while p xs) (x ∷ xs)
drop_while-cons p x xs =
    elim (cases_Bool (p x)) [
      | inl holds ↦
          let step : 1 + prefix_len p xs ≡ suc (prefix_len p xs) = omega arith in
          rw (holds, step) refl
      | inr fails ↦ rw fails refl
    ]

-- the run and the rest make the text
pub take_while-append-drop_while : {X : Type 0} (p : X → Bool) (xs : List X) → take_while p xs ++ drop_while p xs ≡ xs
take_while-append-drop_while p xs = take-append-drop (prefix_len p xs) xs

-- each element passes where the run is the whole list
pub list_all-prefix_len : {X : Type 0} (p : X → Bool) (xs : List X) → list_all p xs ≡ (prefix_len p xs == length xs)
list_all-prefix_len p [] = refl
list_all-prefix_len p (x ∷ xs) =
    elim (cases_Bool (p x)) [
      | inl holds ↦
          let step : 1 + prefix_len p xs ≡ suc (prefix_len p xs) = omega arith in
          rw (holds, step, eqb-suc-suc (prefix_len p xs) (length xs)) (list_all-prefix_len p xs)
      | inr fails ↦ rw (fails, eqb-zero-suc (length xs)) refl
    ]

-- each element of a run passes
pub list_all-take_while : {X : Type 0} (p : X → Bool) (xs : List X) → list_all p (take_while p xs) ≡ true
list_all-take_while p [] = refl
list_all-take_while p (x ∷ xs) =
    elim (cases_Bool (p x)) [
      | inl holds ↦ rw (take_while-cons, holds, holds) (list_all-take_while p xs)
      | inr fails ↦ rw (take_while-cons, fails) refl
    ]

-- elements that pass before one that doesn't are the run, and the rest begins with that one
pub take_while-before : {X : Type 0} (p : X → Bool) (xs : List X) (y : X) (ys : List X) → list_all p xs ≡ true → p y ≡ false → take_while p (xs ++ y ∷ ys) ≡ xs
take_while-before p [] y ys all stop = rw (take_while-cons, stop) refl
take_while-before p (x ∷ xs) y ys all stop =
    let parts = and_parts (p x) (list_all p xs) all in
    rw (take_while-cons p x (xs ++ y ∷ ys), parts.0) (ap (λ zs. x ∷ zs) (take_while-before p xs y ys parts.1 stop))

pub drop_while-before : {X : Type 0} (p : X → Bool) (xs : List X) (y : X) (ys : List X) → list_all p xs ≡ true → p y ≡ false → drop_while p (xs ++ y ∷ ys) ≡ y ∷ ys
drop_while-before p [] y ys all stop = rw (drop_while-cons, stop) refl
drop_while-before p (x ∷ xs) y ys all stop =
    let parts = and_parts (p x) (list_all p xs) all in
    rw (drop_while-cons p x (xs ++ y ∷ ys), parts.0) (drop_while-before p xs y ys parts.1 stop)

-- where all pass the run is the whole list
pub take_while-all : {X : Type 0} (p : X → Bool) (xs : List X) → list_all p xs ≡ true → take_while p xs ≡ xs
take_while-all p [] all = refl
take_while-all p (x ∷ xs) all =
    let parts = and_parts (p x) (list_all p xs) all in
    rw (take_while-cons p x xs, parts.0) (ap (λ zs. x ∷ zs) (take_while-all p xs parts.1))

pub drop_while-all : {X : Type 0} (p : X → Bool) (xs : List X) → list_all p xs ≡ true → drop_while p xs ≡ []
drop_while-all p [] all = refl
drop_while-all p (x ∷ xs) all =
    let parts = and_parts (p x) (list_all p xs) all in
    rw (drop_while-cons p x xs, parts.0) (drop_while-all p xs parts.1)

-- an element that fails
pub list_all-fails : {X : Type 0} (p : X → Bool) (xs : List X) (i : ℕ) (d : X) → i < length xs → p (get_or xs i d) ≡ false → list_all p xs ≡ false
list_all-fails p [] i d lt fails = absurd (omega arith)
list_all-fails p (x ∷ xs) zero d lt fails = rw fails refl
list_all-fails p (x ∷ xs) (suc i) d lt fails =
    elim (cases_Bool (p x)) [
      | inl holds ↦ rw holds (list_all-fails p xs i d (omega arith) fails)
      | inr other ↦ rw other refl
    ]

-- each element passes, by its index
pub list_all_from : (p : ℕ → Bool) (xs : List ℕ) → ((k : ℕ) → k < length xs → p (get_or xs k 0) ≡ true) → list_all p xs ≡ true
list_all_from p [] each = refl
list_all_from p (x ∷ xs) each = rw (each 0 (omega arith)) (list_all_from p xs (λ k lt. each (suc k) (omega arith)))

-- what follows the run fails
pub drop_while-head : {X : Type 0} (p : X → Bool) (xs : List X) (y : X) (ys : List X) → drop_while p xs ≡ y ∷ ys → p y ≡ false
drop_while-head p [] y ys e = absurd cc
drop_while-head p (x ∷ xs) y ys e =
    elim (cases_Bool (p x)) [
      | inl holds ↦ drop_while-head p xs y ys (rw (drop_while-cons, holds) at e)
      | inr fails ↦
          let same : x ∷ xs ≡ y ∷ ys = rw (drop_while-cons, fails) at e in
          let head : x ≡ y = cc in
          rw head at fails
    ]
