-- The sum of the weights of a signal's bits is a quotient and a remainder of the number of the bytes.
use Rattle.std.proofs.Common.{◌≡◌, ◌∙◌, ℕ, zero, suc, ◌+◌, ◌-◌, ◌*◌, ◌/◌, ◌%◌, ◌^◌, ◌<◌, ◌≤◌, ◌⊎◌, inl, inr, List, [], ◌∷◌, ◌++◌, length, map, get_or, refl, ap, sym, arith, add_comm, length-append}
use Rattle.std.specs.Prelude.{reverse}
use Rattle.std.proofs.Math.Nat.{zero-div}
use Rattle.std.proofs.lemmas.Bool.{cases_lt}
use Rattle.std.proofs.lemmas.Nat.{shr-shr, mod-pow-add}
use Rattle.std.proofs.lemmas.List.{get_or-reverse, map-append}
use Rattle.bench_model.specs.declared.database.Order.{Order}
use Rattle.bench_model.specs.declared.database.Order.TheVariants.{Intel, Motorola}
use Rattle.bench_model.specs.Raw.{bit, places, weight}
use Rattle.bench_model.specs.Weights.{intel_sum, upwards, as_read}
use Rattle.bench_model.specs.Shifts.{AreBytes, little_endian, big_endian, end_of, shifted_bits}
use Rattle.bench_model.proofs.ByteNumberLaws.{reversed_bytes}
use Rattle.bench_model.proofs.IntelWeightLaws.{intel_weights}
use Rattle.bench_model.proofs.MotorolaPlaceLaws.{motorola_places}

-- ---- one bit

low_bit : (p b n : ℕ) → p < 8 → (b + 256 * n) / 2 ^ p % 2 ≡ b / 2 ^ p % 2
low_bit zero b n h = omega arith
low_bit (suc zero) b n h = omega arith
low_bit (suc (suc zero)) b n h = omega arith
low_bit (suc (suc (suc zero))) b n h = omega arith
low_bit (suc (suc (suc (suc zero)))) b n h = omega arith
low_bit (suc (suc (suc (suc (suc zero))))) b n h = omega arith
low_bit (suc (suc (suc (suc (suc (suc zero)))))) b n h = omega arith
low_bit (suc (suc (suc (suc (suc (suc (suc zero))))))) b n h = omega arith
low_bit (suc (suc (suc (suc (suc (suc (suc (suc p)))))))) b n h = absurd (omega arith)

in_first : (b : ℕ) (bytes : List ℕ) (p : ℕ) → p < 8 →
    bit (b ∷ bytes) p ≡ (b + 256 * little_endian bytes) / 2 ^ p % 2
in_first b bytes p h =
    let here : p / 8 ≡ 0 = omega arith in
    let same : p % 8 ≡ p = omega arith in
    rw (here, same) (sym (low_bit p b (little_endian bytes) h))

in_rest : (b : ℕ) (bytes : List ℕ) (q : ℕ) → b < 256 → bit bytes q ≡ little_endian bytes / 2 ^ q % 2 →
    bit (b ∷ bytes) (q + 8) ≡ (b + 256 * little_endian bytes) / 2 ^ (q + 8) % 2
in_rest b bytes q small rest =
    let n : ℕ = little_endian bytes in
    let place : (q + 8) / 8 ≡ suc (q / 8) = omega arith in
    let turn : (q + 8) % 8 ≡ q % 8 = omega arith in
    let power : q + 8 ≡ 8 + q = omega arith in
    let high : (b + 256 * n) / 2 ^ 8 ≡ n = omega arith in
    let lower : bit (b ∷ bytes) (q + 8) ≡ bit bytes q = rw (place, turn) refl in
    let shifted : (b + 256 * n) / 2 ^ (q + 8) ≡ n / 2 ^ q =
    ap (λ (k : ℕ). (b + 256 * n) / 2 ^ k) power ∙ sym (shr-shr (b + 256 * n) 8 q)
    ∙ ap (λ (x : ℕ). x / 2 ^ q) high in
    lower ∙ rest ∙ ap (λ (x : ℕ). x % 2) (sym shifted)

by_place : (b : ℕ) (bytes : List ℕ) (p : ℕ) → b < 256 →
    ((q : ℕ) → bit bytes q ≡ little_endian bytes / 2 ^ q % 2) → (p < 8) ⊎ (8 ≤ p) →
    bit (b ∷ bytes) p ≡ (b + 256 * little_endian bytes) / 2 ^ p % 2
by_place b bytes p small rest (inl h) = in_first b bytes p h
by_place b bytes p small rest (inr h) =
    let back : p - 8 + 8 ≡ p = omega arith in
    rw back at (in_rest b bytes (p - 8) small (rest (p - 8)))

-- a bit of the bytes is that bit of their number
bit_of_number : (bytes : List ℕ) → AreBytes bytes → (p : ℕ) →
    bit bytes p ≡ little_endian bytes / 2 ^ p % 2
unfolding little_endian
bit_of_number [] h p = ap (λ (x : ℕ). x % 2) (zero-div (2 ^ (p % 8)) ∙ sym (zero-div (2 ^ p)))
bit_of_number (b ∷ bytes) h p = by_place b bytes p (h 0) (bit_of_number bytes (λ i. h (suc i))) (cases_lt p 8)

-- ---- Intel order

pub sum_by_shift : (bytes : List ℕ) (start n : ℕ) → AreBytes bytes →
    intel_sum bytes start n ≡ little_endian bytes / 2 ^ start % 2 ^ n
unfolding intel_sum
sum_by_shift bytes start zero h = omega arith
sum_by_shift bytes start (suc n) h =
    let x : ℕ = little_endian bytes / 2 ^ start in
    let one : bit bytes (start + n) ≡ little_endian bytes / 2 ^ start / 2 ^ n % 2 =
    bit_of_number bytes h (start + n) ∙ ap (λ (y : ℕ). y % 2) (sym (shr-shr (little_endian bytes) start n)) in
    let split : x % 2 ^ (1 + n) ≡ (x / 2 ^ n % 2) * 2 ^ n + x % 2 ^ n = mod-pow-add x 1 n in
    let order : suc n ≡ 1 + n = omega arith in
    ap (λ (y : ℕ). y + bit bytes (start + n) * 2 ^ n) (sum_by_shift bytes start n h)
    ∙ ap (λ (y : ℕ). x % 2 ^ n + y * 2 ^ n) one
    ∙ add_comm (x % 2 ^ n) ((x / 2 ^ n % 2) * 2 ^ n)
    ∙ sym split
    ∙ ap (λ (k : ℕ). x % 2 ^ k) (sym order)

pub intel_by_shift : (bytes : List ℕ) (start size : ℕ) → AreBytes bytes →
    weight (map (bit bytes) (places Intel start size)) ≡ little_endian bytes / 2 ^ start % 2 ^ size
intel_by_shift bytes start size h = intel_weights bytes start size ∙ sum_by_shift bytes start size h

-- ---- Motorola order

intel_first : (bytes : List ℕ) (s n : ℕ) →
    intel_sum bytes s (suc n) ≡ bit bytes s + 2 * intel_sum bytes (s + 1) n
unfolding intel_sum
intel_first bytes s zero = let e : s + 0 ≡ s = omega arith in rw e (omega arith)
intel_first bytes s (suc n) =
    let e : s + suc n ≡ s + 1 + n = omega arith in
    let twice : 2 ^ suc n ≡ 2 * 2 ^ n = omega arith in
    let rest = intel_first bytes s n in
    rw (e, twice) (omega (arith, rest))

weight-snoc : (bits : List ℕ) (b : ℕ) → weight (bits ++ b ∷ []) ≡ 2 * weight bits + b
weight-snoc [] b = omega arith
weight-snoc (a ∷ bits) b =
    let rest = weight-snoc bits b in
    let long : length (bits ++ b ∷ []) ≡ suc (length bits) = omega (arith, length-append bits (b ∷ [])) in
    let twice : 2 ^ suc (length bits) ≡ 2 * 2 ^ length bits = omega arith in
    rw (long, twice) (omega (arith, rest))

-- the last of the bits that follow one another as the bytes are read
pub last_read : (bytes : List ℕ) (r n : ℕ) → weight (map (bit bytes) (map as_read (upwards r (suc n))))
    ≡ 2 * weight (map (bit bytes) (map as_read (upwards r n))) + bit bytes (as_read (r + n))
unfolding upwards
last_read bytes r n =
    ap (λ (qs : List ℕ). weight (map (bit bytes) qs)) (map-append as_read (upwards r n) ((r + n) ∷ []))
    ∙ ap weight (map-append (bit bytes) (map as_read (upwards r n)) (as_read (r + n) ∷ []))
    ∙ weight-snoc (map (bit bytes) (map as_read (upwards r n))) (bit bytes (as_read (r + n)))

reversed_bit : (bytes : List ℕ) (q s : ℕ) → q < 8 * length bytes → s ≡ 8 * length bytes - 1 - q →
    bit bytes (as_read q) ≡ bit (reverse bytes) s
reversed_bit bytes q s h e =
    let place : as_read q / 8 ≡ q / 8 = omega arith in
    let turn : as_read q % 8 ≡ 7 - q % 8 = omega arith in
    let far : s / 8 ≡ length bytes - 1 - q / 8 = omega arith in
    let far_turn : s % 8 ≡ 7 - q % 8 = omega arith in
    let back : length bytes - 1 - (length bytes - 1 - q / 8) ≡ q / 8 = omega arith in
    let byte : get_or (reverse bytes) (length bytes - 1 - q / 8) 0 ≡ get_or bytes (q / 8) 0 =
    get_or-reverse bytes (length bytes - 1 - q / 8) 0 (omega arith) ∙ ap (λ (k : ℕ). get_or bytes k 0) back in
    rw (place, turn, far, far_turn, byte) refl

reversed_sum : (bytes : List ℕ) (r n : ℕ) → r + n ≤ 8 * length bytes →
    weight (map (bit bytes) (map as_read (upwards r n)))
    ≡ intel_sum (reverse bytes) (8 * length bytes - (r + n)) n
unfolding upwards intel_sum
reversed_sum bytes r zero h = refl
reversed_sum bytes r (suc n) h =
    let start : 8 * length bytes - (r + suc n) + 1 ≡ 8 * length bytes - (r + n) = omega arith in
    let rest : weight (map (bit bytes) (map as_read (upwards r n)))
    ≡ intel_sum (reverse bytes) (8 * length bytes - (r + suc n) + 1) n =
    rw start (reversed_sum bytes r n (omega arith)) in
    let last : bit bytes (as_read (r + n)) ≡ bit (reverse bytes) (8 * length bytes - (r + suc n)) =
    reversed_bit bytes (r + n) _ (omega arith) (omega arith) in
    last_read bytes r n
    ∙ ap (λ (x : ℕ). 2 * x + bit bytes (as_read (r + n))) rest
    ∙ ap (λ (x : ℕ). 2 * intel_sum (reverse bytes) (8 * length bytes - (r + suc n) + 1) n + x) last
    ∙ add_comm _ _
    ∙ sym (intel_first (reverse bytes) (8 * length bytes - (r + suc n)) n)

-- the bits that follow one another as the bytes are read
pub read_by_shift : (bytes : List ℕ) (r n : ℕ) → AreBytes bytes → r + n ≤ 8 * length bytes →
    weight (map (bit bytes) (map as_read (upwards r n)))
    ≡ big_endian bytes / 2 ^ (8 * length bytes - (r + n)) % 2 ^ n
read_by_shift bytes r n h within =
    reversed_sum bytes r n within
    ∙ sum_by_shift (reverse bytes) (8 * length bytes - (r + n)) n (reversed_bytes bytes h)

pub motorola_by_shift : (bytes : List ℕ) (start size : ℕ) → AreBytes bytes →
    as_read start + size ≤ 8 * length bytes →
    weight (map (bit bytes) (places Motorola start size))
    ≡ big_endian bytes / 2 ^ (8 * length bytes - (as_read start + size)) % 2 ^ size
motorola_by_shift bytes start size h within =
    ap (λ (ps : List ℕ). weight (map (bit bytes) ps)) (motorola_places start size)
    ∙ read_by_shift bytes (as_read start) size h within

-- in both orders, the bits of a signal that ends within the bytes
pub bits_by_shift : (order : Order) (bytes : List ℕ) (start size : ℕ) → AreBytes bytes →
    end_of order start size ≤ 8 * length bytes →
    weight (map (bit bytes) (places order start size)) ≡ shifted_bits order start size bytes
bits_by_shift Intel bytes start size h within = intel_by_shift bytes start size h
bits_by_shift Motorola bytes start size h within = motorola_by_shift bytes start size h within

-- ---- worked by hand: 0|16 in Intel order of A0 0F; in Motorola order 7|16 of 12 34 and 3|12 of 0F FE

intel_example : shifted_bits Intel 0 16 (160 ∷ 15 ∷ []) ≡ 4000
unfolding little_endian
intel_example = refl

motorola_example : shifted_bits Motorola 7 16 (18 ∷ 52 ∷ []) ≡ 4660
unfolding little_endian
motorola_example = refl

across_example : shifted_bits Motorola 3 12 (15 ∷ 254 ∷ []) ≡ 4094
unfolding little_endian
across_example = refl
