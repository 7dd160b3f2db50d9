-- The bytes as one number, byte by byte as they are read.
use Rattle.std.proofs.Common.{◌≡◌, ◌∙◌, ℕ, zero, suc, ◌+◌, ◌-◌, ◌*◌, ◌^◌, ◌<◌, ◌≤◌, ◌⊎◌, inl, inr, List, [], ◌∷◌, ◌++◌, length, take, drop, get_or, refl, ap, arith}
use Rattle.std.specs.Prelude.{reverse, slice_index}
use Rattle.std.proofs.lemmas.Bool.{cases_lt}
use Rattle.std.proofs.lemmas.List.{drop_more, get_or-drop, get_or-reverse, get_or_past, length-reverse, reverse-append}
use Rattle.bench_model.specs.Shifts.{AreBytes, little_endian, big_endian}

-- the bytes in reverse are bytes
reversed_at : (bytes : List ℕ) → AreBytes bytes → (i : ℕ) → (i < length bytes) ⊎ (length bytes ≤ i) →
    get_or (reverse bytes) i 0 < 256
reversed_at bytes h i (inl within) = rw (get_or-reverse bytes i 0 within) (h (length bytes - 1 - i))
reversed_at bytes h i (inr past) =
    let long : length (reverse bytes) ≤ i = rw (length-reverse bytes) past in
    let none : get_or (reverse bytes) i 0 ≡ 0 = get_or_past (reverse bytes) i 0 long in
    omega arith

pub reversed_bytes : (bytes : List ℕ) → AreBytes bytes → AreBytes (reverse bytes)
reversed_bytes bytes h i = reversed_at bytes h i (cases_lt i (length bytes))

-- so are those before a place, and those from there on
pub prefix_bytes : (bytes : List ℕ) (n : ℕ) → AreBytes bytes → AreBytes (take n bytes)
prefix_bytes bytes zero h i = omega arith
prefix_bytes [] (suc n) h i = omega arith
prefix_bytes (b ∷ bytes) (suc n) h zero = h 0
prefix_bytes (b ∷ bytes) (suc n) h (suc i) = prefix_bytes bytes n (λ k. h (suc k)) i

pub rest_bytes : (bytes : List ℕ) (n : ℕ) → AreBytes bytes → AreBytes (drop n bytes)
rest_bytes bytes n h i = rw (get_or-drop n bytes i 0) (h (n + i))

pub below : (bytes : List ℕ) → AreBytes bytes → little_endian bytes < 256 ^ length bytes
unfolding little_endian
below [] h = omega arith
below (b ∷ bytes) h =
    let first : b < 256 = h 0 in
    let rest = below bytes (λ i. h (suc i)) in
    let more : 256 ^ suc (length bytes) ≡ 256 * 256 ^ length bytes = omega arith in
    rw more (omega (arith, first, rest))

pub big_below : (bytes : List ℕ) → AreBytes bytes → big_endian bytes < 256 ^ length bytes
big_below bytes h = rw length-reverse at (below (reverse bytes) (reversed_bytes bytes h))

pub little_next : (bytes : List ℕ) (b : ℕ) →
    little_endian (bytes ++ b ∷ []) ≡ little_endian bytes + b * 256 ^ length bytes
unfolding little_endian
little_next [] b = omega arith
little_next (a ∷ bytes) b =
    let more : 256 ^ suc (length bytes) ≡ 256 * 256 ^ length bytes = omega arith in
    rw (more, little_next bytes b) (grind arith)

pub little_rest : (bytes : List ℕ) (i : ℕ) → i < length bytes →
    little_endian (drop i bytes) ≡ slice_index bytes i + 256 * little_endian (drop (i + 1) bytes)
unfolding little_endian
little_rest bytes i h = ap little_endian (drop_more bytes i 0 h)

pub big_next : (bytes : List ℕ) (b : ℕ) → big_endian (bytes ++ b ∷ []) ≡ big_endian bytes * 256 + b
unfolding little_endian
big_next bytes b = ap little_endian (reverse-append bytes (b ∷ [])) ∙ omega arith

-- ---- worked by hand: A0 0F

little_example : little_endian (160 ∷ 15 ∷ []) ≡ 4000
unfolding little_endian
little_example = refl

big_example : big_endian (160 ∷ 15 ∷ []) ≡ 40975
unfolding little_endian
big_example = refl
