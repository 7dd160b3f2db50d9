-- The first value of a name in a list is that of its parts, one after another.
use Rattle.std.proofs.Common.{◌≡◌, ◌∙◌, sym, ap, subst, refl, ℕ, Bool, true, false, cond, List, [], ◌∷◌, ◌++◌}
use Rattle.std.specs.Prelude.{Option, Some, None, if◌then◌else◌}
use Rattle.std.specs.Borrow.{Bor}
use Rattle.std.specs.Option.{option_map}
use Rattle.std.specs.Str.{bytes_eq}
use Rattle.std.specs.Ordering.{nat_cmp}
use Rattle.std.specs.Cmp.Lexicographic.{slice_cmp}
use Rattle.std.specs.BTreeMap.{BTreeMap, IsEmpty, UpdatesBy}
use Rattle.std.proofs.lemmas.Slice.Eq.{bytes_eq-Decides}
use Rattle.std.proofs.lemmas.Map.Text.{btree_map_updates_str}
use Rattle.ldf_grammar.specs.Gather.{first_of}
use Rattle.ldf_grammar.specs.Lookup.{value_at, or_else, Adds, HasFirsts, HasLent}

or_none : {T : Type 0} (o : Option T) → or_else o None ≡ o
or_none None = refl
or_none (Some x) = refl

or_assoc : {T : Type 0} (a b c : Option T) → or_else (or_else a b) c ≡ or_else a (or_else b c)
or_assoc None b c = refl
or_assoc (Some x) b c = refl

pub first_of-append : {T : Type 0} (name : List ℕ) (xs ys : List (List ℕ × T)) → first_of name (xs ++ ys) ≡ or_else (first_of name xs) (first_of name ys)
unfolding first_of
first_of-append name [] ys = refl
first_of-append {T} name (pair ∷ xs) ys =
    elim (bytes_eq pair.0 name) as (λ (b : Bool). (if b then Some pair.1 else first_of name (xs ++ ys)) ≡ or_else (if b then Some pair.1 else first_of name xs) (first_of name ys)) [
      | true ↦ refl
      | false ↦ first_of-append name xs ys
    ]

one_first : {T : Type 0} (name : List ℕ) (pair : List ℕ × T) → first_of name (pair ∷ []) ≡ (if bytes_eq pair.0 name then Some pair.1 else None)
unfolding first_of
one_first name pair = refl

first_of-nil : {T : Type 0} (name : List ℕ) → first_of {T = T} name [] ≡ None
unfolding first_of
first_of-nil name = refl

-- a name that is there keeps its value, and another has the new one
set_at : {T : Type 0} (m : BTreeMap (Bor (List ℕ)) T) (name other : List ℕ) (first v : T) (b : Bool) → Some first ≡ or_else (value_at m name) (Some v)
    → (b ≡ true → name ≡ other) → cond b (Some first) (value_at m other) ≡ or_else (value_at m other) (if b then Some v else None)
set_at {T} m name other first v true e same =
    let P : List ℕ → Type 0 = λ n. Some first ≡ or_else (value_at m n) (Some v) in
    subst P (same refl) e
set_at m name other first v false e same = sym (or_none (value_at m other))

pub adds_first : {T : Type 0} (m n : BTreeMap (Bor (List ℕ)) T) (name : List ℕ) (first v : T) (there : Option T) → there ≡ value_at m name
    → Some first ≡ or_else there (Some v)
    → UpdatesBy (λ x y. slice_cmp nat_cmp x.now y.now) (λ k. slice_cmp nat_cmp name k.now) m n (Some first) → Adds m n ((name, v) ∷ [])
adds_first {T} m n name first v there is e updates =
    let P : Option T → Type 0 = λ o. Some first ≡ or_else o (Some v) in
    record {
      each = λ other. btree_map_updates_str name m n (Some first) updates other
          ∙ rw (one_first other (name, v)) (set_at m name other first v (bytes_eq name other) (subst P is e) (λ h. (bytes_eq-Decides name other).0 h));
    }

pub adds_nothing : {T : Type 0} (m : BTreeMap (Bor (List ℕ)) T) → Adds m m []
adds_nothing m = record { each = λ name. sym (or_none (value_at m name)) ∙ ap (or_else (value_at m name)) (sym (first_of-nil name)) }

pub adds_more : {T : Type 0} (a b c : BTreeMap (Bor (List ℕ)) T) (xs ys zs : List (List ℕ × T)) → Adds a b xs → Adds b c ys → zs ≡ xs ++ ys → Adds a c zs
adds_more a b c xs ys zs p q e = record {
  each = λ name. q.each name ∙ ap (λ o. or_else o (first_of name ys)) (p.each name)
      ∙ or_assoc (value_at a name) (first_of name xs) (first_of name ys)
      ∙ ap (or_else (value_at a name)) (sym (first_of-append name xs ys))
      ∙ ap (λ all. or_else (value_at a name) (first_of name all)) (sym e);
}

pub firsts_begin : {T : Type 0} (m : BTreeMap (Bor (List ℕ)) T) → IsEmpty m → HasFirsts m []
firsts_begin m none = record { each = λ name. rw (none, first_of-nil name) refl }

pub firsts_go_on : {T : Type 0} (m n : BTreeMap (Bor (List ℕ)) T) (xs ys zs : List (List ℕ × T)) → HasFirsts m xs → Adds m n ys → zs ≡ xs ++ ys → HasFirsts n zs
firsts_go_on m n xs ys zs has adds e = record {
  each = λ name. adds.each name ∙ ap (λ o. or_else o (first_of name ys)) (has.each name)
      ∙ sym (first_of-append name xs ys) ∙ ap (first_of name) (sym e);
}

-- the same of lent values
map_or_else : {A B : Type 0} (f : A → B) (a b : Option A) → option_map f (or_else a b) ≡ or_else (option_map f a) (option_map f b)
map_or_else f None b = refl
map_or_else f (Some x) b = refl

map_one : {A B : Type 0} (f : A → B) (x : A) (b : Bool) → option_map f (if b then Some x else None) ≡ (if b then Some (f x) else None)
map_one f x true = refl
map_one f x false = refl

pub lent_begin : {T : Type 0} (m : BTreeMap (Bor (List ℕ)) (Bor T)) → IsEmpty m → HasLent m []
lent_begin m none = record { each = λ name. rw (none, first_of-nil name) refl }

pub lent_go_on : {T : Type 0} (m n : BTreeMap (Bor (List ℕ)) (Bor T)) (xs zs : List (List ℕ × T)) (name : List ℕ) (b : Bor T) → HasLent m xs
    → Adds m n ((name, b) ∷ []) → zs ≡ xs ++ (name, b.now) ∷ [] → HasLent n zs
lent_go_on {T} m n xs zs name b has adds e = record {
  each = λ other.
      let now : Bor T → T = λ lent. lent.now in
      ap (option_map now) (adds.each other)
      ∙ map_or_else now (value_at m other) (first_of other ((name, b) ∷ []))
      ∙ ap (λ o. or_else o (option_map now (first_of other ((name, b) ∷ [])))) (has.each other)
      ∙ ap (or_else (first_of other xs)) (ap (option_map now) (one_first other (name, b)) ∙ map_one now b (bytes_eq name other) ∙ sym (one_first other (name, b.now)))
      ∙ sym (first_of-append other xs ((name, b.now) ∷ []))
      ∙ ap (first_of other) (sym e);
}
