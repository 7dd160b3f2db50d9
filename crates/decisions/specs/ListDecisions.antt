-- A question about each thing of a list: the first thing of which nothing is made decides, with its place.
use Rattle.std.specs.Prelude.{◌≡◌, ◌⊎◌, ℕ, zero, suc, List, [], ◌∷◌, refl}
use Rattle.std.specs.List.{AllZip}
use Rattle.std.proofs.Common.{inl, inr, ap, ◌∙◌}
use Rattle.decisions.specs.Decisions.{Decides}

-- the thing at this place is the first of the list that fails, for this reason
abbrev pub FirstFails : {A B C : Type 0} → (A → B → Type 0) → (A → C → Type 0) → List A → ℕ → C → Type 0
FirstFails Makes Fails [] at why = ⊥
FirstFails Makes Fails (x ∷ xs) zero why = Fails x why
FirstFails {B = B} Makes Fails (x ∷ xs) (suc n) why = ((y : B) × Makes x y) × FirstFails Makes Fails xs n why

-- the same of a place and a reason together
abbrev pub FirstFailsAt : {A B C : Type 0} → (A → B → Type 0) → (A → C → Type 0) → List A → ℕ × C → Type 0
FirstFailsAt Makes Fails xs at = FirstFails Makes Fails xs at.0 at.1

-- the first of the list that fails does so for this reason, whatever its place
abbrev pub FirstFailsFor : {A B C : Type 0} → (A → B → Type 0) → (A → C → Type 0) → List A → C → Type 0
FirstFailsFor Makes Fails xs why = (at : ℕ) × FirstFails Makes Fails xs at why

cons_path : {A : Type 0} (x y : A) (xs ys : List A) → x ≡ y → xs ≡ ys → x ∷ xs ≡ y ∷ ys
cons_path x y xs ys e es = ap (λ z. z ∷ xs) e ∙ ap (λ zs. y ∷ zs) es

pair_path : {A B : Type 0} (p q : A × B) → p.0 ≡ q.0 → p.1 ≡ q.1 → p ≡ q
pair_path {A} {B} p q e f =
    let first : A → A × B = λ a. (a, p.1) in
    let second : B → A × B = λ b. (q.0, b) in
    ap first e ∙ ap second f

module _ {A B C : Type 0} (Makes : A → B → Type 0) (Fails : A → C → Type 0) (d : Decides Makes Fails) where
  some_list : (xs : List A) → ((ys : List B) × AllZip Makes xs ys) ⊎ ((at : ℕ × C) × FirstFailsAt Makes Fails xs at)
  some_list [] = inl ([], tt)
  some_list (x ∷ xs) =
      elim (d.some x) [
        | inl y ↦
            elim (some_list xs) [
              | inl ys ↦ inl (y.0 ∷ ys.0, (y.1, ys.1))
              | inr at ↦ inr ((suc at.0.0, at.0.1), (y, at.1))
            ]
        | inr c ↦ inr ((zero, c.0), c.1)
      ]

  one_list : (xs : List A) (ys zs : List B) → AllZip Makes xs ys → AllZip Makes xs zs → ys ≡ zs
  one_list [] [] [] h k = refl
  one_list [] [] (z ∷ zs) h k = absurd k
  one_list [] (y ∷ ys) zs h k = absurd h
  one_list (x ∷ xs) [] zs h k = absurd h
  one_list (x ∷ xs) (y ∷ ys) [] h k = absurd k
  one_list (x ∷ xs) (y ∷ ys) (z ∷ zs) h k = cons_path y z ys zs (d.one x y z h.0 k.0) (one_list xs ys zs h.1 k.1)

  only_first : (xs : List A) (m n : ℕ) (c e : C) → FirstFails Makes Fails xs m c → FirstFails Makes Fails xs n e → (m ≡ n) × (c ≡ e)
  only_first [] m n c e h k = absurd h
  only_first (x ∷ xs) zero zero c e h k = (refl, d.only x c e h k)
  only_first (x ∷ xs) zero (suc n) c e h k = absurd (d.apart x k.0.0 c k.0.1 h)
  only_first (x ∷ xs) (suc m) zero c e h k = absurd (d.apart x h.0.0 e h.0.1 k)
  only_first (x ∷ xs) (suc m) (suc n) c e h k = let r = only_first xs m n c e h.1 k.1 in (ap suc r.0, r.1)

  apart_list : (xs : List A) (ys : List B) (n : ℕ) (c : C) → AllZip Makes xs ys → FirstFails Makes Fails xs n c → ⊥
  apart_list [] ys n c h k = k
  apart_list (x ∷ xs) [] n c h k = h
  apart_list (x ∷ xs) (y ∷ ys) zero c h k = d.apart x y c h.0 k
  apart_list (x ∷ xs) (y ∷ ys) (suc n) c h k = apart_list xs ys n c h.1 k.1

  pub decides_list : Decides (AllZip Makes) (FirstFailsAt Makes Fails)
  decides_list = record {
    some = some_list;
    one = one_list;
    only = λ xs p q h k. let r = only_first xs p.0 q.0 p.1 q.1 h k in pair_path p q r.0 r.1;
    apart = λ xs ys at h k. apart_list xs ys at.0 at.1 h k;
  }

  pub decides_first : Decides (AllZip Makes) (FirstFailsFor Makes Fails)
  decides_first = record {
    some = λ xs.
        elim (some_list xs) [
          | inl ys ↦ inl ys
          | inr at ↦ inr (at.0.1, (at.0.0, at.1))
        ];
    one = one_list;
    only = λ xs c e h k. (only_first xs h.0 k.0 c e h.1 k.1).1;
    apart = λ xs ys c h k. apart_list xs ys k.0 c h k.1;
  }
