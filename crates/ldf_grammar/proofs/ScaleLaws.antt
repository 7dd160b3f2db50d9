-- The entries of a list of encodings one by one, and the first whose scaling is too wide.
use Rattle.std.proofs.Common.{◌≡◌, ◌∙◌, sym, ap, subst, arith, ℕ, ◌<◌, List, [], ◌∷◌, ◌++◌, length, take, get_or, map, zero, suc, ◌+◌, Ok, Err, Result, append_assoc}
use Rattle.std.specs.Prelude.{IsErr, IsErrAnd, IfErr}
use Rattle.std.specs.List.{flat_map, AllZip}
use Rattle.std.proofs.lemmas.List.{take_more}
use Rattle.std.proofs.lemmas.List.{map-append}
use Rattle.decisions.specs.ListDecisions.{FirstFailsFor}
use Rattle.ldf_grammar.specs.declared.fault.LdfFault.{LdfFault}
use Rattle.ldf_grammar.specs.declared.fault.LdfFault.TheVariants as faults
use Rattle.ldf_grammar.specs.Answer.{IsWideOrMemory}
use Rattle.ldf_grammar.proofs.StepLaws.{each_append, flat_step, first_before, first_after}

-- a fault that is passed on
same_fault : {A : Type 0} (r : Result A LdfFault) (e : LdfFault) → IsErr r × IsErrAnd r (λ s. s ≡ e) → r ≡ Err e
same_fault (Ok x) e h = let f = h.0 in absurd cc
same_fault (Err s) e h = ap Err h.1

wide_on : (e : LdfFault) (P Q : ℕ → Type 0) → IsWideOrMemory P e → ((at : ℕ) → P at → Q at) → IsWideOrMemory Q e
wide_on (faults.Scale at) P Q p to = to at p
wide_on (faults.Lex f) P Q p to = p
wide_on (faults.Statement at) P Q p to = p
wide_on (faults.UnknownName at) P Q p to = p
wide_on (faults.Check f) P Q p to = p
wide_on faults.Memory P Q p to = p

pub wide_passes : {A : Type 0} (r : Result A LdfFault) (e : LdfFault) (P Q : ℕ → Type 0) → IsErr r × IsErrAnd r (λ s. s ≡ e) → IsWideOrMemory P e → ((at : ℕ) → P at → Q at)
    → IfErr r (IsWideOrMemory Q)
wide_passes {A} r e P Q h p to =
    let S : Result A LdfFault → Type 0 = λ x. IfErr x (IsWideOrMemory Q) in
    subst S (sym (same_fault r e h)) (wide_on e P Q p to)

-- the first that fails, at this place of a list
first_there : {A B : Type 0} (R : A → B → Type 0) (Fails : A → ℕ → Type 0) (xs : List A) (i : ℕ) (ys : List B) (d : A) (at : ℕ) → AllZip R (take i xs) ys → i < length xs
    → Fails (get_or xs i d) at → FirstFailsFor R Fails xs at
first_there R Fails [] i ys d at each h fails = absurd (omega arith)
first_there R Fails (x ∷ xs) zero ys d at each h fails = (zero, fails)
first_there R Fails (x ∷ xs) (suc i) [] d at each h fails = absurd each
first_there R Fails (x ∷ xs) (suc i) (y ∷ ys) d at each h fails =
    let later = first_there R Fails xs i ys d at each.1 (omega arith) fails in
    (suc later.0, ((y, each.0), later.1))

pub first_here : {A B : Type 0} (R : A → B → Type 0) (Fails : A → ℕ → Type 0) (xs : List A) (i : ℕ) (ys : List B) (x : A) (at : ℕ) → AllZip R (take i xs) ys → i < length xs
    → x ≡ get_or xs i x → Fails x at → FirstFailsFor R Fails xs at
first_here {A} R Fails xs i ys x at each h is fails =
    let P : A → Type 0 = λ z. Fails z at in
    first_there R Fails xs i ys x at each h (subst P is fails)

-- one counterpart more
pub each_push : {A B : Type 0} (R : A → B → Type 0) (xs : List A) (i : ℕ) (ys zs : List B) (x : A) (y : B) → AllZip R (take i xs) ys → i < length xs → x ≡ get_or xs i x → R x y
    → zs ≡ ys ++ y ∷ [] → AllZip R (take (i + 1) xs) zs
each_push {A} {B} R xs i ys zs x y each h is r e =
    let P : A → Type 0 = λ z. R z y in
    let both = each_append R (take i xs) ys (get_or xs i x ∷ []) (y ∷ []) each (subst P is r, tt) in
    rw (take_more xs i x h, e) both

-- the same where each counterpart is seen through a function, behind those that were there
pub added_more : {A B C : Type 0} (R : A → B → Type 0) (f : C → B) (xs : List A) (i : ℕ) (old now later : List C) (x : A) (y : C)
    → ((added : List C) × (now ≡ old ++ added) × AllZip R (take i xs) (map f added)) → i < length xs → x ≡ get_or xs i x → R x (f y) → later ≡ now ++ y ∷ []
    → (added : List C) × (later ≡ old ++ added) × AllZip R (take (i + 1) xs) (map f added)
added_more R f xs i old now later x y (added, was, each) h is r e = (
  added ++ y ∷ [],
  e ∙ ap (λ zs. zs ++ y ∷ []) was ∙ append_assoc old added (y ∷ []),
  each_push R xs i (map f added) (map f (added ++ y ∷ [])) x (f y) each h is r (map-append f added (y ∷ [])),
)

pub flat_more : {S A B C : Type 0} (R : A → B → Type 0) (f : C → B) (g : S → List A) (ss : List S) (i : ℕ) (now later : List C) (x : S)
    → AllZip R (flat_map g (take i ss)) (map f now) → i < length ss → x ≡ get_or ss i x → ((added : List C) × (later ≡ now ++ added) × AllZip R (g x) (map f added))
    → AllZip R (flat_map g (take (i + 1) ss)) (map f later)
flat_more R f g ss i now later x each h is (added, e, more) =
    let both = each_append R (flat_map g (take i ss)) (map f now) (g x) (map f added) each more in
    rw (flat_step g ss i x h is, e, map-append f now added) both

each_split : {A B : Type 0} (R : A → B → Type 0) (xs more : List A) (ys : List B) → AllZip R (xs ++ more) ys → (prefix : List B) × (back : List B) × AllZip R xs prefix × AllZip R more back
each_split R [] more ys each = ([], ys, tt, each)
each_split R (x ∷ xs) more [] each = absurd each
each_split R (x ∷ xs) more (y ∷ ys) each =
    let parts = each_split R xs more ys each.1 in
    (y ∷ parts.0, parts.1, (each.0, parts.2), parts.3)

flat_there : {S A B : Type 0} (R : A → B → Type 0) (Fails : A → ℕ → Type 0) (g : S → List A) (ss : List S) (i : ℕ) (ys : List B) (d : S) (at : ℕ)
    → AllZip R (flat_map g (take i ss)) ys → i < length ss → FirstFailsFor R Fails (g (get_or ss i d)) at → FirstFailsFor R Fails (flat_map g ss) at
flat_there R Fails g [] i ys d at each h first = absurd (omega arith)
flat_there R Fails g (s ∷ ss) zero ys d at each h first = first_before R Fails (g s) (flat_map g ss) at first
flat_there R Fails g (s ∷ ss) (suc i) ys d at each h first =
    let parts = each_split R (g s) (flat_map g (take i ss)) ys each in
    first_after R Fails (g s) parts.0 (flat_map g ss) at parts.2 (flat_there R Fails g ss i parts.1 d at parts.3 (omega arith) first)

pub flat_first : {S A B : Type 0} (R : A → B → Type 0) (Fails : A → ℕ → Type 0) (g : S → List A) (ss : List S) (i : ℕ) (ys : List B) (x : S) (at : ℕ)
    → AllZip R (flat_map g (take i ss)) ys → i < length ss → x ≡ get_or ss i x → FirstFailsFor R Fails (g x) at → FirstFailsFor R Fails (flat_map g ss) at
flat_first {S} R Fails g ss i ys x at each h is first =
    let P : S → Type 0 = λ z. FirstFailsFor R Fails (g z) at in
    flat_there R Fails g ss i ys x at each h (subst P is first)
