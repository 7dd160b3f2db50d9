-- Two lists place by place: one more of each, what is at a place, and the first that fails behind those that do not.
use Rattle.std.proofs.Common.{◌≡◌, ℕ, zero, suc, ◌+◌, ◌<◌, ◌≤◌, List, [], ◌∷◌, ◌++◌, length, get_or, take, refl, sym, ap, ◌∙◌, arith, add-one}
use Rattle.std.specs.Prelude.{zip}
use Rattle.std.specs.List.{AllZip}
use Rattle.std.proofs.lemmas.List.{take_all}
use Rattle.std.proofs.Math.Seq.{take-suc}
use Rattle.decisions.specs.ListDecisions.{FirstFails}

pub AllZip-snoc : {A B : Type 0} (R : A → B → Type 0) (xs : List A) (ys : List B) (x : A) (y : B) → AllZip R xs ys → R x y
    → AllZip R (xs ++ x ∷ []) (ys ++ y ∷ [])
AllZip-snoc R [] [] x y h r = (r, tt)
AllZip-snoc R [] (w ∷ ys) x y h r = absurd h
AllZip-snoc R (z ∷ xs) [] x y h r = absurd h
AllZip-snoc R (z ∷ xs) (w ∷ ys) x y h r = (h.0, AllZip-snoc R xs ys x y h.1 r)

pub length-all_zip : {A B : Type 0} (R : A → B → Type 0) (xs : List A) (ys : List B) → AllZip R xs ys → length ys ≡ length xs
length-all_zip R [] [] h = refl
length-all_zip R [] (w ∷ ys) h = absurd h
length-all_zip R (z ∷ xs) [] h = absurd h
length-all_zip R (z ∷ xs) (w ∷ ys) h = omega (arith, length-all_zip R xs ys h.1)

zip_at : {A B : Type 0} (xs : List A) (ys : List B) (i : ℕ) (a : A) (b : B) → i < length xs → i < length ys
    → (let d : A × B = (a, b) in let here : A × B = (get_or xs i a, get_or ys i b) in get_or (zip xs ys) i d ≡ here)
zip_at [] ys i a b within inside = absurd (omega arith)
zip_at (x ∷ xs) [] i a b within inside = absurd (omega arith)
zip_at (x ∷ xs) (y ∷ ys) zero a b within inside = refl
zip_at (x ∷ xs) (y ∷ ys) (suc i) a b within inside = zip_at xs ys i a b (omega arith) (omega arith)

pub length-zip : {A B : Type 0} (xs : List A) (ys : List B) → length xs ≡ length ys → length (zip xs ys) ≡ length xs
length-zip [] ys same = refl
length-zip (x ∷ xs) [] same = absurd (omega arith)
length-zip (x ∷ xs) (y ∷ ys) same = omega (arith, length-zip xs ys (omega arith))

pair_is : {A B : Type 0} (a c : A) (b e : B) → a ≡ c → b ≡ e → (let p : A × B = (a, b) in let q : A × B = (c, e) in p ≡ q)
pair_is a c b e p q = cc

-- what is at this place of the pairs
pub pair_at : {A B : Type 0} (xs : List A) (ys : List B) (i : ℕ) (x : A) (y : B) → length xs ≡ length ys → i < length xs
    → x ≡ get_or xs i x → y ≡ get_or ys i y → (let here : A × B = (x, y) in get_or (zip xs ys) i here ≡ here)
pair_at xs ys i x y same within is is' =
    zip_at xs ys i x y within (omega arith) ∙ sym (pair_is x (get_or xs i x) y (get_or ys i y) is is')

-- the first that fails, behind so many that do not
pub first_fails : {A B C : Type 0} (Makes : A → B → Type 0) (Fails : A → C → Type 0) (xs : List A) (ys : List B) (i : ℕ) (d : A) (why : C)
    → i < length xs → AllZip Makes (take i xs) ys → Fails (get_or xs i d) why → FirstFails Makes Fails xs i why
first_fails Makes Fails [] ys i d why within made fails = absurd (omega arith)
first_fails Makes Fails (x ∷ xs) ys zero d why within made fails = fails
first_fails Makes Fails (x ∷ xs) [] (suc i) d why within made fails = absurd made
first_fails Makes Fails (x ∷ xs) (y ∷ ys) (suc i) d why within made fails = ((y, made.0), first_fails Makes Fails xs ys i d why (omega arith) made.1 fails)

-- one more of each
pub all_more : {A B : Type 0} (R : A → B → Type 0) (xs : List A) (ys after : List B) (i : ℕ) (x : A) (y : B) → i < length xs → x ≡ get_or xs i x
    → AllZip R (take i xs) ys → R x y → after ≡ ys ++ y ∷ [] → AllZip R (take (i + 1) xs) after
all_more {A} {B} R xs ys after i x y within is all one pushed =
    let next : take (i + 1) xs ≡ take i xs ++ x ∷ [] = rw add-one (take-suc xs i x within) ∙ ap (λ (z : A). take i xs ++ z ∷ []) (sym is) in
    rw (pushed, next) (AllZip-snoc R (take i xs) ys x y all one)

-- all of them
pub all_whole : {A B : Type 0} (R : A → B → Type 0) (xs : List A) (ys : List B) (i : ℕ) → length xs ≤ i → AllZip R (take i xs) ys → AllZip R xs ys
all_whole R xs ys i end all = rw (take_all i xs end) at all

-- the same of pairs of two lists
pub zip_more : {A B D : Type 0} (R : A × B → D → Type 0) (xs : List A) (ys : List B) (zs after : List D) (i : ℕ) (x : A) (y : B) (z : D)
    → length xs ≡ length ys → i < length xs → x ≡ get_or xs i x → y ≡ get_or ys i y → AllZip R (take i (zip xs ys)) zs → R (x, y) z
    → after ≡ zs ++ z ∷ [] → AllZip R (take (i + 1) (zip xs ys)) after
zip_more {A} {B} R xs ys zs after i x y z same within is is' all one pushed =
    let here : A × B = (x, y) in
    all_more R (zip xs ys) zs after i here z (omega (arith, length-zip xs ys same)) (sym (pair_at xs ys i x y same within is is')) all one pushed
