-- Two lists that go together place by place are parted together, and a list is parted in one way at a place.
use Rattle.std.proofs.Common.{◌≡◌, suc, List, [], ◌∷◌, ◌++◌, length, take, drop, refl, sym, ap, ◌∙◌}
use Rattle.std.proofs.Math.Seq.{take-append_seam, drop-append_seam}
use Rattle.std.specs.List.{AllZip}

pub zip_more : {A B : Type 0} (R : A → B → Type 0) (xs : List A) (ys : List B) (x : A) (y : B) → AllZip R xs ys → R x y
    → AllZip R (xs ++ x ∷ []) (ys ++ y ∷ [])
zip_more R [] [] x y h r = (r, tt)
zip_more R [] (w ∷ ys) x y h r = absurd h
zip_more R (z ∷ xs) [] x y h r = absurd h
zip_more R (z ∷ xs) (w ∷ ys) x y h r = (h.0, zip_more R xs ys x y h.1 r)

pub zip_join : {A B : Type 0} (R : A → B → Type 0) (xs : List A) (ys : List B) (vs : List A) (ws : List B) → AllZip R xs ys
    → AllZip R vs ws → AllZip R (xs ++ vs) (ys ++ ws)
zip_join R [] [] vs ws h r = r
zip_join R [] (w ∷ ys) vs ws h r = absurd h
zip_join R (z ∷ xs) [] vs ws h r = absurd h
zip_join R (z ∷ xs) (w ∷ ys) vs ws h r = (h.0, zip_join R xs ys vs ws h.1 r)

pub zip_weaker : {A B : Type 0} (R Q : A → B → Type 0) → ((x : A) (y : B) → R x y → Q x y) → (xs : List A) (ys : List B)
    → AllZip R xs ys → AllZip Q xs ys
zip_weaker R Q f [] [] h = tt
zip_weaker R Q f [] (w ∷ ys) h = absurd h
zip_weaker R Q f (z ∷ xs) [] h = absurd h
zip_weaker R Q f (z ∷ xs) (w ∷ ys) h = (f z w h.0, zip_weaker R Q f xs ys h.1)

pub zip_same : {A : Type 0} (R : A → A → Type 0) → ((x : A) → R x x) → (xs : List A) → AllZip R xs xs
zip_same R f [] = tt
zip_same R f (x ∷ xs) = (f x, zip_same R f xs)

pub zip_length : {A B : Type 0} (R : A → B → Type 0) (xs : List A) (ys : List B) → AllZip R xs ys → length xs ≡ length ys
zip_length R [] [] h = refl
zip_length R [] (y ∷ ys) h = absurd h
zip_length R (x ∷ xs) [] h = absurd h
zip_length R (x ∷ xs) (y ∷ ys) h = ap suc (zip_length R xs ys h.1)

-- what goes with a list in two parts is in two parts, each of which goes with its own
pub record Parted {A B : Type 0} (R : A → B → Type 0) (xs : List A) (x : A) (more : List A) (all : List B) : Type 0 where
  pub first : List B
  pub one : B
  pub rest : List B
  pub parted : all ≡ first ++ one ∷ rest
  pub first_zip : AllZip R xs first
  pub one_zip : R x one
  pub rest_zip : AllZip R more rest

pub zip_parted : {A B : Type 0} (R : A → B → Type 0) (xs : List A) (x : A) (more : List A) (all : List B)
    → AllZip R (xs ++ x ∷ more) all → Parted R xs x more all
zip_parted R [] x more [] h = absurd h
zip_parted R [] x more (y ∷ all) h = record { first = []; one = y; rest = all; parted = refl; first_zip = tt; one_zip = h.0; rest_zip = h.1 }
zip_parted R (z ∷ xs) x more [] h = absurd h
zip_parted {B = B} R (z ∷ xs) x more (y ∷ all) h =
    let p = zip_parted R xs x more all h.1 in
    record { first = y ∷ p.first; one = p.one; rest = p.rest; parted = ap (λ (l : List B). y ∷ l) p.parted; first_zip = (h.0, p.first_zip); one_zip = p.one_zip; rest_zip = p.rest_zip }

-- two partings of a list whose first parts are as long are one
pub same_prefix : {A : Type 0} (xs ys vs ws : List A) → xs ++ ys ≡ vs ++ ws → length xs ≡ length vs → xs ≡ vs
same_prefix {A} xs ys vs ws e n =
    sym (take-append_seam xs ys) ∙ ap (λ (l : List A). take (length xs) l) e ∙ ap (λ k. take k (vs ++ ws)) n ∙ take-append_seam vs ws

pub same_rest : {A : Type 0} (xs ys vs ws : List A) → xs ++ ys ≡ vs ++ ws → length xs ≡ length vs → ys ≡ ws
same_rest {A} xs ys vs ws e n =
    sym (drop-append_seam xs ys) ∙ ap (λ (l : List A). drop (length xs) l) e ∙ ap (λ k. drop k (vs ++ ws)) n ∙ drop-append_seam vs ws
