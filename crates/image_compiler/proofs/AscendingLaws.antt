-- Numbers in ascending order are an index, and two such orders of the same numbers are one.
use Rattle.std.proofs.Common.{◌≡◌, ◌∙◌, ℕ, zero, suc, ◌+◌, ◌-◌, ◌<◌, ◌≤◌, inl, inr, Bool, true, false, List, [], ◌∷◌, length, take, drop, get_or, refl, ap, sym, subst, arith}
use Rattle.std.specs.Prelude.{nat_le, if◌then◌else◌, slice_index_or, slice_range, sum_by}
use Rattle.std.specs.List.Sorted.{IsPermutation, IsNonDecreasing}
use Rattle.std.proofs.lemmas.Bool.{cases_lt}
use Rattle.std.proofs.lemmas.Bool.Decides.{nat_tests}
use Rattle.std.proofs.lemmas.List.{get_or-drop, length-drop}
use Rattle.std.proofs.lemmas.List.Sums.{sum_by-cons}
use Rattle.std.proofs.lemmas.List.Sorted.{IsPermutation-refl, IsPermutation-trans, IsPermutation-cons, IsPermutation-append_comm, IsPermutation-append_left, sum_by-IsPermutation}
use Rattle.image_words.specs.Layout.{word}
use Rattle.image_words.specs.Index.{IsIndexOf, HasIndex}
use Rattle.image_compiler.specs.Layout.{inserted, ascending}
use Rattle.image_compiler.proofs.ListLaws.{LiesAt}

-- ---- lengths

one_more : (b : Bool) (n x : ℕ) (xs ys : List ℕ) → length ys ≡ suc (length xs) → length (if b then n ∷ x ∷ xs else x ∷ ys) ≡ suc (suc (length xs))
one_more true n x xs ys h = refl
one_more false n x xs ys h = ap suc h

inserted_long : (n : ℕ) (xs : List ℕ) → length (inserted n xs) ≡ suc (length xs)
unfolding inserted
inserted_long n [] = refl
inserted_long n (x ∷ xs) = one_more (nat_le n x) n x xs (inserted n xs) (inserted_long n xs)

pub ascending_long : (xs : List ℕ) → length (ascending xs) ≡ length xs
unfolding ascending
ascending_long [] = refl
ascending_long (x ∷ xs) = inserted_long x (ascending xs) ∙ ap suc (ascending_long xs)

-- ---- the same numbers

exchanged : (n x : ℕ) (xs : List ℕ) → IsPermutation (n ∷ x ∷ xs) (x ∷ n ∷ xs)
exchanged n x xs = IsPermutation-append_left xs (n ∷ x ∷ []) (x ∷ n ∷ []) (IsPermutation-append_comm (n ∷ []) (x ∷ []))

placed : (b : Bool) (n x : ℕ) (xs ys : List ℕ) → IsPermutation (n ∷ xs) ys → IsPermutation (n ∷ x ∷ xs) (if b then n ∷ x ∷ xs else x ∷ ys)
placed true n x xs ys h = IsPermutation-refl (n ∷ x ∷ xs)
placed false n x xs ys h = IsPermutation-trans (n ∷ x ∷ xs) (x ∷ n ∷ xs) (x ∷ ys) (exchanged n x xs) (IsPermutation-cons x (n ∷ xs) ys h)

inserted_same : (n : ℕ) (xs : List ℕ) → IsPermutation (n ∷ xs) (inserted n xs)
unfolding inserted
inserted_same n [] = IsPermutation-refl (n ∷ [])
inserted_same n (x ∷ xs) = placed (nat_le n x) n x xs (inserted n xs) (inserted_same n xs)

ascending_same : (xs : List ℕ) → IsPermutation xs (ascending xs)
unfolding ascending
ascending_same [] = IsPermutation-refl []
ascending_same (x ∷ xs) =
    IsPermutation-trans (x ∷ xs) (x ∷ ascending xs) (inserted x (ascending xs)) (IsPermutation-cons x xs (ascending xs) (ascending_same xs)) (inserted_same x (ascending xs))

-- ---- in order

unfoldable AtLeast : ℕ → List ℕ → Type 0
AtLeast m [] = Unit {0}
AtLeast m (x ∷ xs) = (m ≤ x) × AtLeast m xs

unfoldable Rises : List ℕ → Type 0
Rises [] = Unit {0}
Rises (x ∷ xs) = AtLeast x xs × Rises xs

at_least_less : (m n : ℕ) (xs : List ℕ) → m ≤ n → AtLeast n xs → AtLeast m xs
unfolding AtLeast
at_least_less m n [] h all = tt
at_least_less m n (x ∷ xs) h all = let here : n ≤ x = all.0 in (omega (arith, h, here), at_least_less m n xs h all.1)

placed_least : (b : Bool) (m n x : ℕ) (xs ys : List ℕ) → m ≤ n → m ≤ x → AtLeast m xs → AtLeast m ys → AtLeast m (if b then n ∷ x ∷ xs else x ∷ ys)
unfolding AtLeast
placed_least true m n x xs ys h k all more = (h, (k, all))
placed_least false m n x xs ys h k all more = (k, more)

inserted_least : (m n : ℕ) (xs : List ℕ) → m ≤ n → AtLeast m xs → AtLeast m (inserted n xs)
unfolding AtLeast inserted
inserted_least m n [] h all = (h, tt)
inserted_least m n (x ∷ xs) h all = placed_least (nat_le n x) m n x xs (inserted n xs) h all.0 all.1 (inserted_least m n xs h all.1)

is_at_most : (n x : ℕ) → nat_le n x ≡ true → n ≤ x
is_at_most n x h = grind (arith, nat_tests)

is_above : (n x : ℕ) → nat_le n x ≡ false → x ≤ n
is_above n x h = grind (arith, nat_tests)

placed_rises : (b : Bool) (n x : ℕ) (xs ys : List ℕ) → nat_le n x ≡ b → AtLeast x xs → Rises xs → Rises ys → ((x ≤ n) → AtLeast x ys) →
    Rises (if b then n ∷ x ∷ xs else x ∷ ys)
unfolding AtLeast Rises
placed_rises true n x xs ys e least rises more f =
    let here = is_at_most n x e in ((here, at_least_less n x xs here least), (least, rises))
placed_rises false n x xs ys e least rises more f = (f (is_above n x e), more)

inserted_rises : (n : ℕ) (xs : List ℕ) → Rises xs → Rises (inserted n xs)
unfolding AtLeast Rises inserted
inserted_rises n [] rises = (tt, tt)
inserted_rises n (x ∷ xs) rises =
    placed_rises (nat_le n x) n x xs (inserted n xs) refl rises.0 rises.1 (inserted_rises n xs rises.1) (λ h. inserted_least x n xs h rises.0)

ascending_rises : (xs : List ℕ) → Rises (ascending xs)
unfolding Rises ascending
ascending_rises [] = tt
ascending_rises (x ∷ xs) = inserted_rises x (ascending xs) (ascending_rises xs)

least_at : (m : ℕ) (xs : List ℕ) (j d : ℕ) → AtLeast m xs → j < length xs → m ≤ slice_index_or xs j d
unfolding AtLeast
least_at m [] j d all h = absurd (omega (arith, h))
least_at m (x ∷ xs) zero d all h = all.0
least_at m (x ∷ xs) (suc j) d all h = least_at m xs j d all.1 (omega (arith, h))

rising_is : (xs : List ℕ) → Rises xs → IsNonDecreasing xs
unfolding Rises
rising_is [] rises i j d h k = absurd (omega (arith, k))
rising_is (x ∷ xs) rises zero zero d h k = omega arith
rising_is (x ∷ xs) rises zero (suc j) d h k = least_at x xs j d rises.0 (omega (arith, k))
rising_is (x ∷ xs) rises (suc i) zero d h k = absurd (omega (arith, h))
rising_is (x ∷ xs) rises (suc i) (suc j) d h k = rising_is xs rises.1 i j d (omega (arith, h)) (omega (arith, k))

pub ascending_is : (xs : List ℕ) → IsIndexOf xs (ascending xs)
ascending_is xs = record { ascending = rising_is (ascending xs) (ascending_rises xs); same = ascending_same xs }

-- ---- only one order

-- 1 for each number up to x
abbrev count_to : ℕ → ℕ → ℕ
count_to x z = if nat_le z x then 1 else 0

not_counted : (x y : ℕ) → x < y → count_to x y ≡ 0
not_counted x y h = grind (arith, nat_tests)

below_first : (x : ℕ) (ys : List ℕ) → ((j : ℕ) → j < length ys → x < get_or ys j 0) → sum_by (count_to x) ys ≡ 0
below_first x [] above = refl
below_first x (y ∷ ys) above =
    let f : ℕ → ℕ = count_to x in
    let here : x < y = above 0 (omega arith) in
    let none : f y ≡ 0 = not_counted x y here in
    let rest = below_first x ys (λ j h. above (suc j) (omega (arith, h))) in
    omega (arith, none, rest, sum_by-cons f y ys)

counted : (x : ℕ) → count_to x x ≡ 1
counted x = grind (arith, nat_tests)

not_above : (x y : ℕ) (xs ys : List ℕ) → IsNonDecreasing (y ∷ ys) → ((f : ℕ → ℕ) → sum_by f (x ∷ xs) ≡ sum_by f (y ∷ ys)) → x < y → ⊥
not_above x y xs ys k sums h =
    let f : ℕ → ℕ = count_to x in
    let none : sum_by f (y ∷ ys) ≡ 0 = below_first x (y ∷ ys) (λ j a. let o = k 0 j 0 (omega arith) a in omega (arith, o, h)) in
    let one : f x ≡ 1 = counted x in
    omega (arith, none, one, sums f, sum_by-cons f x xs)

same_first : (x y : ℕ) (xs ys : List ℕ) → IsNonDecreasing (x ∷ xs) → IsNonDecreasing (y ∷ ys) → ((f : ℕ → ℕ) → sum_by f (x ∷ xs) ≡ sum_by f (y ∷ ys)) → x ≡ y
same_first x y xs ys h k sums = elim (cases_lt x y) as (λ _. x ≡ y) [
  | inl less ↦ absurd (not_above x y xs ys k sums less)
  | inr most ↦ elim (cases_lt y x) as (λ _. x ≡ y) [
    | inl less ↦ absurd (not_above y x ys xs h (λ f. sym (sums f)) less)
    | inr least ↦ omega (arith, most, least)
  ]
]

same_order : (xs ys : List ℕ) → IsNonDecreasing xs → IsNonDecreasing ys → ((f : ℕ → ℕ) → sum_by f xs ≡ sum_by f ys) → xs ≡ ys
same_order [] [] h k sums = refl
same_order [] (y ∷ ys) h k sums = let e = sums (λ (z : ℕ). 1) in absurd (omega (arith, e, sum_by-cons (λ (z : ℕ). 1) y ys))
same_order (x ∷ xs) [] h k sums = let e = sums (λ (z : ℕ). 1) in absurd (omega (arith, e, sum_by-cons (λ (z : ℕ). 1) x xs))
same_order (x ∷ xs) (y ∷ ys) h k sums =
    let first : x ≡ y = same_first x y xs ys h k sums in
    let rest : xs ≡ ys = same_order xs ys (λ i j d a b. h (suc i) (suc j) d (omega (arith, a)) (omega (arith, b))) (λ i j d a b. k (suc i) (suc j) d (omega (arith, a)) (omega (arith, b)))
    (λ f. let e = sums f in omega (arith, e, ap f first, sum_by-cons f x xs, sum_by-cons f y ys)) in
    ap (λ (z : ℕ). z ∷ xs) first ∙ ap (λ (zs : List ℕ). y ∷ zs) rest

pub one_index : (entries index : List ℕ) → IsNonDecreasing index → IsPermutation entries index → index ≡ ascending entries
one_index entries index rises same =
    same_order index (ascending entries) rises (ascending_is entries).ascending
    (λ f. sum_by-IsPermutation f entries index same ∙ sym (sum_by-IsPermutation f entries (ascending entries) (ascending_same entries)))

-- ---- in the image

prefix_is : (xs part : List ℕ) → length part ≤ length xs → ((i : ℕ) → i < length part → get_or xs i 0 ≡ get_or part i 0) → take (length part) xs ≡ part
prefix_is xs [] long each = refl
prefix_is [] (p ∷ part) long each = absurd (omega (arith, long))
prefix_is (x ∷ xs) (p ∷ part) long each =
    let first : x ≡ p = each 0 (omega arith) in
    let rest = prefix_is xs part (omega (arith, long)) (λ i h. each (suc i) (omega (arith, h))) in
    ap (λ (z : ℕ). z ∷ take (length part) xs) first ∙ ap (λ (zs : List ℕ). p ∷ zs) rest

range_is : (words part : List ℕ) (at : ℕ) → LiesAt words at part → at + length part ≤ length words → slice_range words at (at + length part) ≡ part
range_is words part at s long =
    let count : at + length part - at ≡ length part = omega arith in
    let enough : length part ≤ length (drop at words) = omega (arith, long, length-drop at words) in
    ap (λ (n : ℕ). take n (drop at words)) count
    ∙ prefix_is (drop at words) part enough (λ i h. get_or-drop at words i 0 ∙ s.each i h)

-- an index at a place, with its number of entries
pub index_lies : (words entries : List ℕ) (at count : ℕ) → LiesAt words at (ascending entries) → count ≡ length entries →
    at + length entries ≤ word words 0 → word words 0 ≤ length words → HasIndex words entries at count
index_lies words entries at count s e inside whole =
    let long : length (ascending entries) ≡ count = ascending_long entries ∙ sym e in
    let range : slice_range words at (at + count) ≡ ascending entries =
    ap (λ (n : ℕ). slice_range words at (at + n)) (sym long) ∙ range_is words (ascending entries) at s (omega (arith, long, e, inside, whole)) in
    let P : List ℕ → Type 0 = λ index. IsIndexOf entries index in
    record { within = λ some. omega (arith, e, inside); index = subst P (sym range) (ascending_is entries) }
