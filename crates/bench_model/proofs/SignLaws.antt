-- The bit of greatest weight is set exactly where the number is at least its weight, so a signed number of
-- these bits is two's complement.
use Rattle.std.proofs.Common.{◌≡◌, ◌∙◌, ℕ, zero, suc, ◌+◌, ◌-◌, ◌*◌, ◌^◌, ◌<◌, ◌≤◌, pos, negsuc, ◌-ℤ◌, List, map, refl, ap, sym, arith, Bool, true, false, ◌&&◌, cond, eqb, leb}
use Rattle.std.proofs.lemmas.Bool.{le-leb, lt-leb, leb-true}
use Rattle.std.proofs.lemmas.Int.{ints}
use Rattle.std.proofs.Math.Nat.{pow-le-pow_right}
use Rattle.exact_scale.specs.Limits.{IsRawValue}
use Rattle.bench_model.specs.declared.database.Order.{Order}
use Rattle.bench_model.specs.Raw.{bit, first_place, next_place, places_from, places, weight, number_of}
use Rattle.bench_model.specs.Shifts.{signed_number}
use Rattle.bench_model.proofs.PlaceLaws.{length-bits}

-- one bit above others
above : (b rest m : ℕ) → b < 2 → rest < m → b * m + rest < 2 * m
above zero rest m h k = omega arith
above (suc zero) rest m h k = omega arith
above (suc (suc b)) rest m h k = absurd (omega arith)

top_decides : (b rest m : ℕ) → b < 2 → rest < m → eqb b 1 ≡ leb m (b * m + rest)
top_decides zero rest m h k = sym (lt-leb m (0 * m + rest) (omega arith))
top_decides (suc zero) rest m h k = sym (le-leb m (1 * m + rest) (omega arith))
top_decides (suc (suc b)) rest m h k = absurd (omega arith)

-- so many bits are below 2 ^ n
pub bits_below : (bytes : List ℕ) (o : Order) (p n : ℕ) → weight (map (bit bytes) (places_from o p n)) < 2 ^ n
unfolding places_from
bits_below bytes o p zero = omega arith
bits_below bytes o p (suc n) =
    let twice : 2 ^ suc n ≡ 2 * 2 ^ n = omega arith in
    rw (length-bits bytes o (next_place o p) n, twice) (
    above (bit bytes p) _ (2 ^ n) (omega arith) (bits_below bytes o (next_place o p) n))

top_set : (bytes : List ℕ) (o : Order) (p n : ℕ) →
    eqb (bit bytes p) 1 ≡ leb (2 ^ n) (weight (map (bit bytes) (places_from o p (suc n))))
unfolding places_from
top_set bytes o p n =
    rw (length-bits bytes o (next_place o p) n) (
    top_decides (bit bytes p) _ (2 ^ n) (omega arith) (bits_below bytes o (next_place o p) n))

pub sign : (order : Order) (bytes : List ℕ) (start size : ℕ) → 1 ≤ size →
    eqb (bit bytes (first_place order start size)) 1
    ≡ leb (2 ^ (size - 1)) (weight (map (bit bytes) (places order start size)))
sign order bytes start zero h = absurd (omega arith)
sign order bytes start (suc n) h =
    let rest : n ≡ suc n - 1 = omega arith in
    top_set bytes order (first_place order start (suc n)) n
    ∙ ap (λ (k : ℕ). leb (2 ^ k) (weight (map (bit bytes) (places order start (suc n))))) rest

pub complement : (order : Order) (bytes : List ℕ) (signed : Bool) (start size : ℕ) → 1 ≤ size →
    let bits = weight (map (bit bytes) (places order start size)) in
    number_of signed size (bit bytes (first_place order start size)) bits ≡ signed_number signed size bits
complement order bytes signed start size h =
    let n : ℕ = weight (map (bit bytes) (places order start size)) in
    ap (λ (t : Bool). cond (signed && t) (pos n -ℤ pos (2 ^ size)) (pos n)) (sign order bytes start size h)

-- ---- the range of raw values

doubled : (size : ℕ) → 1 ≤ size → 2 ^ size ≡ 2 * 2 ^ (size - 1)
doubled zero h = absurd (omega arith)
doubled (suc n) h =
    let before : suc n - 1 ≡ n = omega arith in
    rw before (omega arith)

less : (size bits : ℕ) → 1 ≤ size → size ≤ 64 → 2 ^ (size - 1) ≤ bits → bits < 2 ^ size →
    IsRawValue (pos bits -ℤ pos (2 ^ size))
less size bits some most half small =
    let two : 0 < 2 = omega arith in
    let twice = doubled size some in
    let least : 2 ^ (size - 1) ≤ 2 ^ 63 =
    pow-le-pow_right {n = 2} two {i = size - 1} {j = 63} (omega arith) in
    (omega (arith, ints), omega (arith, ints))

plain : (size bits : ℕ) → size ≤ 64 → bits < 2 ^ size → IsRawValue (pos bits)
plain size bits most small =
    let two : 0 < 2 = omega arith in
    let greatest : 2 ^ size ≤ 2 ^ 64 = pow-le-pow_right {n = 2} two {i = size} {j = 64} most in
    (omega (arith, ints), omega (arith, ints))

by_half : (size bits : ℕ) (half : Bool) → leb (2 ^ (size - 1)) bits ≡ half → 1 ≤ size → size ≤ 64 →
    bits < 2 ^ size → IsRawValue (cond half (pos bits -ℤ pos (2 ^ size)) (pos bits))
by_half size bits true e some most small = less size bits some most (leb-true _ _ e) small
by_half size bits false e some most small = plain size bits most small

pub signed_range : (signed : Bool) (size bits : ℕ) → 1 ≤ size → size ≤ 64 → bits < 2 ^ size →
    IsRawValue (signed_number signed size bits)
signed_range true size bits some most small = by_half size bits _ refl some most small
signed_range false size bits some most small = plain size bits most small

-- ---- worked by hand: the twelve bits FFE are -2 where they are signed, and 4094 where they are not

minus_two : signed_number true 12 4094 ≡ negsuc 1
minus_two = refl

unsigned_example : signed_number false 12 4094 ≡ pos 4094
unsigned_example = refl
