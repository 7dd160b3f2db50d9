-- A literal at the front of a text, and a field before a literal.
use Rattle.std.proofs.Common.{◌≡◌, ℕ, true, false, eqb, List, [], ◌∷◌, ◌++◌, length, take, drop, Option, Some, None, refl, sym, ap, ◌∙◌, inl, inr, ◌↔◌}
use Rattle.std.specs.Prelude.{take_while, nat_eq, MatchOption, ◌+◌}
use Rattle.std.specs.Borrow.{Bor}
use Rattle.std.specs.List.{list_all}
use Rattle.std.specs.Cmp.Lexicographic.{pointwise}
use Rattle.std.proofs.lemmas.Bool.{cases_Bool, and_parts, eqb-true, eq-eqb, not-true}
use Rattle.byte_forms.specs.declared.class.Class.{Class}
use Rattle.byte_forms.specs.Classes.{is_in, drop_while}
use Rattle.byte_forms.specs.Pieces.{◌>>=◌, after_literal, field_before, is_end_of, text_view}
use Rattle.byte_forms.proofs.RunLaws.{take_while-append-drop_while, list_all-take_while, take_while-before, drop_while-before}

-- the value of a step that gave one
pub bind_some : {A B : Type 0} (r : Option A) (f : A → Option B) (y : B) → (r >>= f) ≡ Some y → (x : A) × (r ≡ Some x) × (f x ≡ Some y)
bind_some (Some x) f y e = (x, refl, e)
bind_some None f y e = absurd cc

-- by the comparison of the front with the literal
pub after_literal-same : (literal bytes : List ℕ) → pointwise nat_eq (take (length literal) bytes) literal ≡ true → after_literal literal bytes ≡ Some (drop (length literal) bytes)
unfolding after_literal
after_literal-same [] bytes same = refl
after_literal-same (l ∷ ls) [] same = absurd cc
after_literal-same (l ∷ ls) (b ∷ bs) same =
    let parts = and_parts (nat_eq b l) (pointwise nat_eq (take (length ls) bs) ls) same in
    rw parts.0 (after_literal-same ls bs parts.1)

pub after_literal-other : (literal bytes : List ℕ) → pointwise nat_eq (take (length literal) bytes) literal ≡ false → after_literal literal bytes ≡ None
unfolding after_literal
after_literal-other [] bytes other = absurd cc
after_literal-other (l ∷ ls) [] other = refl
after_literal-other (l ∷ ls) (b ∷ bs) other =
    elim (cases_Bool (eqb b l)) [
      | inl holds ↦ rw holds (after_literal-other ls bs (rw holds at other))
      | inr fails ↦ rw fails refl
    ]

-- the text behind a literal
pub after_literal-append : (literal rest : List ℕ) → after_literal literal (literal ++ rest) ≡ Some rest
unfolding after_literal
after_literal-append [] rest = refl
after_literal-append (l ∷ ls) rest = rw (eq-eqb l l refl) (after_literal-append ls rest)

-- what has a rest behind a literal is the literal and that rest
pub after_literal_takes : (literal bytes rest : List ℕ) → after_literal literal bytes ≡ Some rest → bytes ≡ literal ++ rest
unfolding after_literal
after_literal_takes [] bytes rest e = cc
after_literal_takes (l ∷ ls) [] rest e = absurd cc
after_literal_takes (l ∷ ls) (b ∷ bs) rest e =
    elim (cases_Bool (eqb b l)) [
      | inl holds ↦
          let same : b ≡ l = eqb-true b l holds in
          let tail : bs ≡ ls ++ rest = after_literal_takes ls bs rest (rw holds at e) in
          cc
      | inr fails ↦ absurd (cc (rw fails at e))
    ]

-- so a literal is found exactly where the text begins with it
pub after_literal_exactly : (literal bytes rest : List ℕ) → (after_literal literal bytes ≡ Some rest) ↔ (bytes ≡ literal ++ rest)
after_literal_exactly literal bytes rest = (after_literal_takes literal bytes rest, λ e. ap (after_literal literal) e ∙ after_literal-append literal rest)

-- a field before a literal that ends it
pub field_before-append : (class : Class) (literal field rest : List ℕ) → list_all (is_in class) field ≡ true → is_end_of class literal ≡ true → field_before class literal (field ++ (literal ++ rest)) ≡ Some (field, rest)
unfolding field_before
field_before-append class [] field rest all end = absurd cc
field_before-append class (l ∷ ls) field rest all end =
    let stop : is_in class l ≡ false = not-true (is_in class l) end in
    rw (drop_while-before (is_in class) field l (ls ++ rest) all stop, take_while-before (is_in class) field l (ls ++ rest) all stop)
    (ap (λ (r : Option (List ℕ)). r >>= (λ rest. Some (field, rest))) (after_literal-append (l ∷ ls) rest))

-- what a field before a literal was read from
pub field_before_takes : (class : Class) (literal bytes field rest : List ℕ) → field_before class literal bytes ≡ Some (field, rest) → (bytes ≡ field ++ (literal ++ rest)) × (list_all (is_in class) field ≡ true)
unfolding field_before
field_before_takes class literal bytes field rest e =
    let step = bind_some (after_literal literal (drop_while (is_in class) bytes)) (λ rest. Some (take_while (is_in class) bytes, rest)) (field, rest) e in
    let behind : drop_while (is_in class) bytes ≡ literal ++ step.0 = after_literal_takes literal (drop_while (is_in class) bytes) step.0 step.1 in
    let prefix : take_while (is_in class) bytes ≡ field = ap (λ (r : Option (List ℕ × List ℕ)). elim r [ None ↦ [] | Some x ↦ x.0 ]) step.2 in
    let after : step.0 ≡ rest = ap (λ (r : Option (List ℕ × List ℕ)). elim r [ None ↦ [] | Some x ↦ x.1 ]) step.2 in
    let all : list_all (is_in class) (take_while (is_in class) bytes) ≡ true = list_all-take_while (is_in class) bytes in
    let whole : take_while (is_in class) bytes ++ drop_while (is_in class) bytes ≡ bytes = take_while-append-drop_while (is_in class) bytes in
    (cc, cc)

-- what `strip_prefix` gives is the text after the literal
pub strips : (literal bytes : List ℕ) (r : Option (Bor (List ℕ)))
    → MatchOption r (pointwise nat_eq (take (length literal) bytes) literal ≡ false) (λ x. (pointwise nat_eq (take (length literal) bytes) literal ≡ true) × (x.now ≡ drop (length literal) bytes) × (length x.now + length literal ≡ length bytes))
    → text_view r ≡ after_literal literal bytes
strips literal bytes None given = sym (after_literal-other literal bytes given)
strips literal bytes (Some x) given = ap (λ (rest : List ℕ). Some rest) given.1 ∙ sym (after_literal-same literal bytes given.0)
