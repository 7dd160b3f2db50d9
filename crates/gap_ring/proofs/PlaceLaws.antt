-- What is at a place of a list still is there once the list is longer, and a range is two ranges joined.
use Rattle.std.proofs.Common.{◌≡◌, ℕ, zero, suc, ◌+◌, ◌<◌, Bool, true, false, List, [], ◌∷◌, ◌++◌, length, get_or}
use Rattle.std.proofs.Common.{slice_get, All, AllPairs, map, drop, flat_map, filter, Some, refl, ap, ◌∙◌, subst, arith, ◌⊎◌, ⊎_elim, inl, inr, length-append}
use Rattle.std.proofs.lemmas.List.{get_or_append_left}
use Rattle.std.specs.List.{range_with_len}
use Rattle.std.proofs.lemmas.Option.{none-some, same_Some}
use Rattle.std.proofs.lemmas.List.Elements.{All-nil, All-cons, All-head, All-tail, All-append}

module _ {A : Type 0} where
  pub get_longer : (xs ys : List A) (n : ℕ) (x : A) → slice_get xs n ≡ Some x → slice_get (xs ++ ys) n ≡ Some x
  get_longer [] ys n x e = absurd (none-some x e)
  get_longer (y ∷ xs) ys zero x e = e
  get_longer (y ∷ xs) ys (suc n) x e = get_longer xs ys n x e

  pub get_last : (xs : List A) (x : A) (n : ℕ) → length xs ≡ n → slice_get (xs ++ x ∷ []) n ≡ Some x
  get_last [] x zero e = refl
  get_last [] x (suc n) e = absurd (omega arith)
  get_last (y ∷ xs) x zero e = absurd (omega arith)
  get_last (y ∷ xs) x (suc n) e = get_last xs x n (omega arith)

  pub get_right : (xs ys : List A) (n k : ℕ) → length xs + k ≡ n → slice_get (xs ++ ys) n ≡ slice_get ys k
  get_right [] ys n k e = let same : n ≡ k = omega arith in ap (λ i. slice_get ys i) same
  get_right (x ∷ xs) ys zero k e = absurd (omega arith)
  get_right (x ∷ xs) ys (suc n) k e = get_right xs ys n k (omega arith)

  -- one more: at a place before, or the last
  pub get_snoc : (xs : List A) (x y : A) (n : ℕ) → slice_get (xs ++ x ∷ []) n ≡ Some y → (slice_get xs n ≡ Some y) ⊎ ((n ≡ length xs) × (x ≡ y))
  get_snoc [] x y zero e = inr (refl, same_Some x y e)
  get_snoc [] x y (suc n) e = absurd (none-some y e)
  get_snoc (z ∷ xs) x y zero e = inl e
  get_snoc (z ∷ xs) x y (suc n) e =
      ⊎_elim
      (λ (h : slice_get xs n ≡ Some y). inl h)
      (λ (h : (n ≡ length xs) × (x ≡ y)). inr (ap suc h.0, h.1))
      (get_snoc xs x y n e)

  -- what holds of each holds of each of the rest
  pub all_right : (P : A → Type 0) (xs ys : List A) → All P (xs ++ ys) → All P ys
  all_right P [] ys h = h
  all_right P (x ∷ xs) ys h = all_right P xs ys (All-tail P x (xs ++ ys) h)

  pub all_pairs_cons : (R : A → A → Type 0) (x : A) (xs : List A) → All (R x) xs → AllPairs R xs → AllPairs R (x ∷ xs)
  all_pairs_cons R x xs h p zero zero d below above = absurd (omega arith)
  all_pairs_cons R x xs h p zero (suc j) d below above = h j d (omega arith)
  all_pairs_cons R x xs h p (suc i) zero d below above = absurd (omega arith)
  all_pairs_cons R x xs h p (suc i) (suc j) d below above = p i j d (omega arith) (omega arith)

  pub all_pairs_tail : (R : A → A → Type 0) (x : A) (xs : List A) → AllPairs R (x ∷ xs) → AllPairs R xs
  all_pairs_tail R x xs h i j d below above = h (suc i) (suc j) d (omega arith) (omega arith)

  pub all_pairs_head : (R : A → A → Type 0) (x : A) (xs : List A) → AllPairs R (x ∷ xs) → All (R x) xs
  all_pairs_head R x xs h k d below = h 0 (suc k) d (omega arith) (omega arith)

  pub all_pairs_right : (R : A → A → Type 0) (xs ys : List A) → AllPairs R (xs ++ ys) → AllPairs R ys
  all_pairs_right R [] ys h = h
  all_pairs_right R (x ∷ xs) ys h = all_pairs_right R xs ys (all_pairs_tail R x (xs ++ ys) h)

  pub all_pairs_left : (R : A → A → Type 0) (xs ys : List A) → AllPairs R (xs ++ ys) → AllPairs R xs
  all_pairs_left R xs ys h i j d below above =
      let wide : length (xs ++ ys) ≡ length xs + length ys = length-append xs ys in
      let low : i < length xs = omega arith in
      subst (λ a. R a (get_or xs j d)) (get_or_append_left xs ys d i low)
      (subst (λ b. R (get_or (xs ++ ys) i d) b) (get_or_append_left xs ys d j above) (h i j d below (omega arith)))

  pub all_left : (P : A → Type 0) (xs ys : List A) → All P (xs ++ ys) → All P xs
  all_left P [] ys h = All-nil P
  all_left P (x ∷ xs) ys h = All-cons P x xs (All-head P x (xs ++ ys) h) (all_left P xs ys (All-tail P x (xs ++ ys) h))

  pub all_unmap : {B : Type 0} (f : B → A) (P : A → Type 0) (xs : List B) → All P (map f xs) → All (λ x. P (f x)) xs
  all_unmap f P [] h = All-nil (λ x. P (f x))
  all_unmap f P (x ∷ xs) h = All-cons (λ y. P (f y)) x xs (All-head P (f x) (map f xs) h) (all_unmap f P xs (All-tail P (f x) (map f xs) h))

  pub all_get : (P : A → Type 0) (xs : List A) (n : ℕ) (x : A) → All P xs → slice_get xs n ≡ Some x → P x
  all_get P [] n x h e = absurd (none-some x e)
  all_get P (y ∷ xs) zero x h e = subst P (same_Some y x e) (All-head P y xs h)
  all_get P (y ∷ xs) (suc n) x h e = all_get P xs n x (All-tail P y xs h) e

  pub filter_none : (p : A → Bool) (xs : List A) → All (λ x. p x ≡ false) xs → filter p xs ≡ []
  filter_none p [] h = refl
  filter_none p (x ∷ xs) h =
      let head : p x ≡ false = All-head (λ y. p y ≡ false) x xs h in
      let rest : filter p xs ≡ [] = filter_none p xs (All-tail (λ y. p y ≡ false) x xs h) in
      rw (head, rest) refl

  pub all_flat_map : {B : Type 0} (f : B → List A) (P : A → Type 0) (xs : List B) → All (λ x. All P (f x)) xs → All P (flat_map f xs)
  all_flat_map f P [] h = All-nil P
  all_flat_map f P (x ∷ xs) h =
      All-append P (f x) (flat_map f xs) (All-head (λ y. All P (f y)) x xs h)
      (all_flat_map f P xs (All-tail (λ y. All P (f y)) x xs h))

  pub tail_same : (x y : A) (xs ys : List A) → x ∷ xs ≡ y ∷ ys → xs ≡ ys
  tail_same x y xs ys e = ap (drop 1) e

  pub head_same : (x y : A) (xs ys : List A) → x ∷ xs ≡ y ∷ ys → x ≡ y
  head_same x y xs ys e = ap (λ l. get_or l 0 x) e

  -- a list whose images are two lists joined is two lists joined
  pub map_split : {B : Type 0} (f : B → A) (xs : List B) (ys zs : List A) → map f xs ≡ ys ++ zs
      → (a : List B) × (b : List B) × (xs ≡ a ++ b) × (map f a ≡ ys) × (map f b ≡ zs)
  map_split f xs [] zs e = ([], xs, refl, refl, e)
  map_split f [] (y ∷ ys) zs e = absurd (let h : 0 ≡ length (y ∷ (ys ++ zs)) = ap length e in omega arith)
  map_split f (x ∷ xs) (y ∷ ys) zs e =
      let rest = map_split f xs ys zs (tail_same (f x) y (map f xs) (ys ++ zs) e) in
      let first : f x ≡ y = head_same (f x) y (map f xs) (ys ++ zs) e in (
        x ∷ rest.0,
        rest.1,
        ap (λ l. x ∷ l) rest.2,
        ap (λ l. f x ∷ l) rest.3 ∙ ap (λ z. z ∷ ys) first,
        rest.4,
      )

  -- a test that each passes keeps all
  pub filter_all : (p : A → Bool) (xs : List A) → All (λ x. p x ≡ true) xs → filter p xs ≡ xs
  filter_all p [] h = refl
  filter_all p (x ∷ xs) h =
      let head : p x ≡ true = All-head (λ y. p y ≡ true) x xs h in
      let rest : filter p xs ≡ xs = filter_all p xs (All-tail (λ y. p y ≡ true) x xs h) in
      rw (head, rest) refl

pub range_append : (a n m : ℕ) → range_with_len a (n + m) ≡ range_with_len a n ++ range_with_len (a + n) m
range_append a zero m =
    let start : a + zero ≡ a = omega arith in let count : zero + m ≡ m = omega arith in rw (start, count) refl
range_append a (suc n) m =
    let start : a + suc n ≡ (a + 1) + n = omega arith in
    let count : suc n + m ≡ suc (n + m) = omega arith in
    rw (start, count) (ap (λ xs. a ∷ xs) (range_append (a + 1) n m))

pub all_range : (P : ℕ → Type 0) (a n : ℕ) → ((k : ℕ) → k < n → P (a + k)) → All P (range_with_len a n)
all_range P a zero h = All-nil P
all_range P a (suc n) h =
    let start : a + zero ≡ a = omega arith in
    All-cons P a (range_with_len (a + 1) n) (subst P start (h zero (omega arith)))
    (all_range P (a + 1) n
    (λ k below. let next : a + suc k ≡ a + 1 + k = omega arith in subst P next (h (suc k) (omega arith))))
