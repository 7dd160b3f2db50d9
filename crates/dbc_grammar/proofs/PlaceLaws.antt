-- The maps of places have the first place of each key and of each name.
use Rattle.std.proofs.Common.{◌≡◌, ◌∙◌, sym, ap, ℕ, ◌+◌, ◌<◌, List, [], ◌∷◌, ◌++◌, length, get_or, take, length-take, Bool, inl, inr, true, false, ◌&&◌, cond, eqb, refl, arith, Option, Some, None}
use Rattle.std.specs.Prelude.{if◌then◌else◌}
use Rattle.std.specs.List.{position_from}
use Rattle.std.specs.Str.{bytes_eq}
use Rattle.std.specs.Ordering.{ordering_then, bool_cmp, nat_cmp, is_eq}
use Rattle.std.specs.Cmp.Lexicographic.{slice_cmp}
use Rattle.std.proofs.lemmas.Bool.{cases_Bool, and_parts, eqb-true}
use Rattle.std.proofs.lemmas.Bool.Decides.{nat_tests}
use Rattle.std.proofs.lemmas.Cmp.{same_from_slice_cmp}
use Rattle.std.proofs.lemmas.List.{take_more}
use Rattle.bench_model.specs.declared.database.Key.{Key}
use Rattle.bench_model.specs.Meaning.{same_bool}
use Rattle.dbc_grammar.specs.Forms.{◌<|>◌}
use Rattle.dbc_grammar.specs.Naming.{same_key}

same_number : (m n : ℕ) → is_eq (nat_cmp m n) ≡ eqb m n
same_number m n = grind (arith, nat_tests)

-- keys compare as equal where they are the same
pub same_order : (a b : Bool) (m n : ℕ) →
    is_eq (ordering_then (bool_cmp a b) (nat_cmp m n)) ≡ (same_bool a b && eqb m n)
same_order true true m n = same_number m n
same_order true false m n = refl
same_order false true m n = refl
same_order false false m n = same_number m n

-- and names where they have the same bytes
pub same_bytes : (xs ys : List ℕ) → is_eq (slice_cmp nat_cmp xs ys) ≡ bytes_eq xs ys
same_bytes xs ys =
    same_from_slice_cmp nat_cmp is_eq bytes_eq refl (λ _ _. refl) (λ _ _. refl)
    (λ x y xs ys o h. grind (arith, nat_tests)) xs ys
    (slice_cmp nat_cmp xs ys) refl

same_bool_is : (a b : Bool) → same_bool a b ≡ true → a ≡ b
same_bool_is true true e = refl
same_bool_is true false e = absurd cc
same_bool_is false true e = absurd cc
same_bool_is false false e = refl

-- what has a value at one key has it at the same key
pub at_same_key : {X : Type 0} (f : Bool × ℕ → X) (a b : Key) → same_key a b ≡ true → f (b.extended, b.id) ≡ f (a.extended, a.id)
at_same_key f a b e =
    let parts = and_parts (same_bool a.extended b.extended) (eqb a.id b.id) e in
    ap (λ (x : Bool). f (x, b.id)) (sym (same_bool_is a.extended b.extended parts.0))
    ∙ ap (λ (n : ℕ). f (a.extended, n)) (sym (eqb-true a.id b.id parts.1))

or_none : {A : Type 0} (x : Option A) → (x <|> None) ≡ x
or_none (Some x) = refl
or_none None = refl

-- a place is added where the test holds and none was there
pub or_added : (b : Bool) (old new : Option ℕ) (place : ℕ) → (b ≡ true → old ≡ None) → new ≡ cond b (Some place) old →
    new ≡ (old <|> (if b then Some place else None))
or_added true old new place absent e = e ∙ sym (ap (λ o. o <|> Some place) (absent refl))
or_added false old new place absent e = e ∙ sym (or_none old)

-- nothing is added where the test holds and one was there
pub or_kept : (b : Bool) (old : Option ℕ) (first place : ℕ) → (b ≡ true → old ≡ Some first) →
    old ≡ (old <|> (if b then Some place else None))
or_kept true old first place there = there refl ∙ sym (ap (λ o. o <|> Some place) (there refl))
or_kept false old first place there = sym (or_none old)

-- the first place in a list with one more element
pub first_of_more : {A : Type 0} (p : A → Bool) (n k : ℕ) (xs : List A) (y : A) → k ≡ n + length xs →
    position_from p n (xs ++ y ∷ []) ≡ (position_from p n xs <|> (if p y then Some k else None))
first_of_more p n k [] y e = let same : n ≡ k = omega arith in ap (λ m. if p y then Some m else None) same
first_of_more p n k (x ∷ xs) y e =
    elim (cases_Bool (p x)) [
      | inl here ↦ rw here refl
      | inr later ↦ rw later (first_of_more p (n + 1) k xs y (omega arith))
    ]

-- one more element of a list that a loop goes through
pub place_goes_on : {A : Type 0} (p : A → Bool) (xs : List A) (i : ℕ) (x : A) (old new : Option ℕ) → i < length xs → x ≡ get_or xs i x →
    old ≡ position_from p 0 (take i xs) → new ≡ (old <|> (if p x then Some i else None)) → new ≡ position_from p 0 (take (i + 1) xs)
place_goes_on p xs i x old new below is before added =
    added ∙ ap (λ o. o <|> (if p x then Some i else None)) before
    ∙ sym (first_of_more p 0 i (take i xs) x (omega (arith, length-take i xs)))
    ∙ ap (λ y. position_from p 0 (take i xs ++ y ∷ [])) is
    ∙ ap (position_from p 0) (sym (take_more xs i x below))

-- the same where the element is read with some other one in its stead past the end
pub place_goes_on_at : {A : Type 0} (p : A → Bool) (xs : List A) (i : ℕ) (d : A) (old new : Option ℕ) → i < length xs →
    old ≡ position_from p 0 (take i xs) → new ≡ (old <|> (if p (get_or xs i d) then Some i else None)) → new ≡ position_from p 0 (take (i + 1) xs)
place_goes_on_at p xs i d old new below before added =
    added ∙ ap (λ o. o <|> (if p (get_or xs i d) then Some i else None)) before
    ∙ sym (first_of_more p 0 i (take i xs) (get_or xs i d) (omega (arith, length-take i xs)))
    ∙ ap (position_from p 0) (sym (take_more xs i d below))
