-- What loops over lists append, and lists that go side by side.
use Rattle.std.proofs.Common.{◌≡◌, ◌∙◌, sym, ap, ℕ, ◌+◌, ◌<◌, ◌≤◌, List, [], ◌∷◌, ◌++◌, length, get_or, take, Bool, refl, append_assoc, arith}
use Rattle.std.specs.List.{flat_map, enumerate_from, AllZip}
use Rattle.std.specs.Borrow.{Bor}
use Rattle.std.proofs.lemmas.List.{take_more, take_all, append-nil, length-take}
use Rattle.std.proofs.lemmas.Grind.{flat_map-append}
use Rattle.dbc_grammar.specs.declared.statement.Note.{Note}
use Rattle.dbc_grammar.specs.Gather.{float_said, float_after}
use Rattle.dbc_grammar.specs.Noted.{seen_notes}

-- what one more element adds
pub appended_more : {X A : Type 0} (f : X → List A) (xs : List X) (i : ℕ) (d : X) (old before after : List A) → i < length xs →
    before ≡ old ++ flat_map f (take i xs) → after ≡ before ++ f (get_or xs i d) → after ≡ old ++ flat_map f (take (i + 1) xs)
appended_more f xs i d old before after below so_far added =
    added ∙ ap (λ l. l ++ f (get_or xs i d)) so_far ∙ append_assoc old (flat_map f (take i xs)) (f (get_or xs i d))
    ∙ ap (λ l. old ++ (flat_map f (take i xs) ++ l)) (sym (append-nil (f (get_or xs i d))))
    ∙ ap (λ l. old ++ l) (sym (flat_map-append f (take i xs) (get_or xs i d ∷ [])))
    ∙ ap (λ l. old ++ flat_map f l) (sym (take_more xs i d below))

-- all were taken
pub all_taken_from : {X A : Type 0} (f : X → List A) (xs : List X) (i : ℕ) (old now : List A) → length xs ≤ i →
    now ≡ old ++ flat_map f (take i xs) → now ≡ old ++ flat_map f xs
all_taken_from f xs i old now past so_far = so_far ∙ ap (λ l. old ++ flat_map f l) (take_all i xs past)

-- a list of what is behind references
pub flat_map-seen : {A : Type 0} (f : Note → List A) (notes : List (Bor Note)) → flat_map (λ (n : Bor Note). f n.now) notes ≡ flat_map f (seen_notes notes)
flat_map-seen f [] = refl
flat_map-seen f (n ∷ notes) = ap (λ l. f n.now ++ l) (flat_map-seen f notes)

pub float_more : (float : Bool) (notes : List (Bor Note)) (n : Bor Note) →
    float_after float (seen_notes (notes ++ n ∷ [])) ≡ float_said (float_after float (seen_notes notes)) n.now.says
float_more float [] n = refl
float_more float (m ∷ notes) n = float_more (float_said float m.now.says) notes n

-- one more of each
pub each_more : {A B : Type 0} (R : A → B → Type 0) (xs : List A) (ys : List B) (x : A) (y : B) → AllZip R xs ys → R x y →
    AllZip R (xs ++ x ∷ []) (ys ++ y ∷ [])
each_more R [] [] x y each one = (one, tt)
each_more R [] (b ∷ bs) x y each one = absurd each
each_more R (a ∷ xs) [] x y each one = absurd each
each_more R (a ∷ xs) (b ∷ bs) x y each one = (each.0, each_more R xs bs x y each.1 one)

-- one more in its place
pub enumerate-append : {A : Type 0} (n : ℕ) (xs : List A) (y : A) (k : ℕ) → k ≡ n + length xs →
    enumerate_from n (xs ++ y ∷ []) ≡ enumerate_from n xs ++ (k, y) ∷ []
enumerate-append n [] y k e = let same : n ≡ k = omega arith in ap (λ m. (m, y) ∷ []) same
enumerate-append n (x ∷ xs) y k e = ap (λ l. (n, x) ∷ l) (enumerate-append (n + 1) xs y k (omega arith))

-- what a loop over places has, and one more
pub enumerated_more : {A : Type 0} (xs : List A) (i : ℕ) (d : A) → i < length xs →
    enumerate_from 0 (take (i + 1) xs) ≡ enumerate_from 0 (take i xs) ++ (i, get_or xs i d) ∷ []
enumerated_more xs i d below =
    ap (enumerate_from 0) (take_more xs i d below)
    ∙ enumerate-append 0 (take i xs) (get_or xs i d) i (omega (arith, length-take i xs))
