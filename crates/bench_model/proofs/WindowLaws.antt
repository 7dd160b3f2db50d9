-- The bytes that a signal touches suffice for its bits.
use Rattle.std.proofs.Common.{◌≡◌, ◌∙◌, ℕ, zero, suc, ◌+◌, ◌-◌, ◌*◌, ◌/◌, ◌%◌, ◌^◌, ◌<◌, ◌≤◌, List, [], ◌∷◌, length, map, take, drop, refl, ap, sym, arith}
use Rattle.std.specs.Prelude.{slice_range}
use Rattle.std.proofs.lemmas.List.{get_or-take, get_or-drop, length-take-le, length-drop}
use Rattle.bench_model.specs.declared.database.Order.{Order}
use Rattle.bench_model.specs.declared.database.Order.TheVariants.{Intel, Motorola}
use Rattle.bench_model.specs.Raw.{bit, weight}
use Rattle.bench_model.specs.Weights.{intel_sum, upwards, as_read}
use Rattle.bench_model.specs.Shifts.{AreBytes, little_endian, big_endian, end_of, shifted_bits}
use Rattle.bench_model.proofs.ByteNumberLaws.{prefix_bytes, rest_bytes}
use Rattle.bench_model.proofs.ShiftLaws.{sum_by_shift, read_by_shift, last_read}

window_bytes : (a m : ℕ) (bytes : List ℕ) → AreBytes bytes → AreBytes (take m (drop a bytes))
window_bytes a m bytes h = prefix_bytes (drop a bytes) m (rest_bytes bytes a h)

window_bit : (bytes : List ℕ) (a m p : ℕ) → p / 8 < m → bit (take m (drop a bytes)) p ≡ bit bytes (8 * a + p)
window_bit bytes a m p h =
    let place : (8 * a + p) / 8 ≡ a + p / 8 = omega arith in
    let turn : (8 * a + p) % 8 ≡ p % 8 = omega arith in
    rw (place, turn) (
    ap (λ (b : ℕ). b / 2 ^ (p % 8) % 2)
    (get_or-take m (drop a bytes) (p / 8) 0 h ∙ get_or-drop a bytes (p / 8) 0))

window_sum : (bytes : List ℕ) (a m s n : ℕ) → s + n ≤ 8 * m →
    intel_sum (take m (drop a bytes)) s n ≡ intel_sum bytes (8 * a + s) n
unfolding intel_sum
window_sum bytes a m s zero h = refl
window_sum bytes a m s (suc n) h =
    let order : 8 * a + (s + n) ≡ 8 * a + s + n = omega arith in
    let one : bit (take m (drop a bytes)) (s + n) ≡ bit bytes (8 * a + s + n) =
    window_bit bytes a m (s + n) (omega arith) ∙ ap (bit bytes) order in
    ap (λ (x : ℕ). x + bit (take m (drop a bytes)) (s + n) * 2 ^ n) (window_sum bytes a m s n (omega arith))
    ∙ ap (λ (b : ℕ). intel_sum bytes (8 * a + s) n + b * 2 ^ n) one

window_read : (bytes : List ℕ) (a m r n : ℕ) → r + n ≤ 8 * m →
    weight (map (bit (take m (drop a bytes))) (map as_read (upwards r n)))
    ≡ weight (map (bit bytes) (map as_read (upwards (8 * a + r) n)))
unfolding upwards
window_read bytes a m r zero h = refl
window_read bytes a m r (suc n) h =
    let place : 8 * a + as_read (r + n) ≡ as_read (8 * a + r + n) = omega arith in
    let one : bit (take m (drop a bytes)) (as_read (r + n)) ≡ bit bytes (as_read (8 * a + r + n)) =
    window_bit bytes a m (as_read (r + n)) (omega arith) ∙ ap (bit bytes) place in
    last_read (take m (drop a bytes)) r n
    ∙ ap (λ (x : ℕ). 2 * x + bit (take m (drop a bytes)) (as_read (r + n)))
    (window_read bytes a m r n (omega arith))
    ∙ ap (λ (b : ℕ). 2 * weight (map (bit bytes) (map as_read (upwards (8 * a + r) n))) + b) one
    ∙ sym (last_read bytes (8 * a + r) n)

intel_window : (bytes : List ℕ) (a m start size : ℕ) → AreBytes bytes → 8 * a ≤ start →
    start + size ≤ 8 * (a + m) →
    little_endian (take m (drop a bytes)) / 2 ^ (start - 8 * a) % 2 ^ size
    ≡ little_endian bytes / 2 ^ start % 2 ^ size
intel_window bytes a m start size h low high =
    let back : 8 * a + (start - 8 * a) ≡ start = omega arith in
    sym (sum_by_shift (take m (drop a bytes)) (start - 8 * a) size (window_bytes a m bytes h))
    ∙ window_sum bytes a m (start - 8 * a) size (omega arith)
    ∙ ap (λ (s : ℕ). intel_sum bytes s size) back
    ∙ sum_by_shift bytes start size h

-- a part of the bytes, where the signal's first bit is the r-th one as the part is read
read_window : (bytes : List ℕ) (a m r size : ℕ) → AreBytes bytes → r + size ≤ 8 * m → a + m ≤ length bytes →
    big_endian (take m (drop a bytes)) / 2 ^ (8 * length (take m (drop a bytes)) - (r + size)) % 2 ^ size
    ≡ big_endian bytes / 2 ^ (8 * length bytes - (8 * a + r + size)) % 2 ^ size
read_window bytes a m r size h high within =
    let long : length (take m (drop a bytes)) ≡ m =
    length-take-le m (drop a bytes) (rw (length-drop a bytes) (omega arith)) in
    sym (read_by_shift (take m (drop a bytes)) r size (window_bytes a m bytes h) (rw long high))
    ∙ window_read bytes a m r size high
    ∙ read_by_shift bytes (8 * a + r) size h (omega arith)

-- in both orders, a part of the bytes that the signal lies in; there it starts so many whole bytes earlier
pub window : (order : Order) (bytes : List ℕ) (from to start size : ℕ) → AreBytes bytes → 8 * from ≤ start →
    end_of order start size ≤ 8 * to → to ≤ length bytes →
    shifted_bits order (start - 8 * from) size (slice_range bytes from to)
    ≡ shifted_bits order start size bytes
window Intel bytes from to start size h low high within =
    intel_window bytes from (to - from) start size h low (omega arith)
window Motorola bytes from to start size h low high within =
    let place : as_read start ≡ 8 * from + as_read (start - 8 * from) = omega arith in
    read_window bytes from (to - from) (as_read (start - 8 * from)) size h (omega arith) (omega arith)
    ∙ ap (λ (r : ℕ). big_endian bytes / 2 ^ (8 * length bytes - (r + size)) % 2 ^ size) (sym place)

-- at most 64 bits touch at most nine bytes
pub nine : (order : Order) (start size : ℕ) → size ≤ 64 → (end_of order start size + 7) / 8 - start / 8 ≤ 9
nine Intel start size h = omega arith
nine Motorola start size h = omega arith

-- ---- worked by hand: 11|12 in Motorola order of FF 0F FE is 3|12 of 0F FE; 7|64 in Intel order

window_example : shifted_bits Motorola 11 12 (255 ∷ 15 ∷ 254 ∷ [])
    ≡ shifted_bits Motorola 3 12 (15 ∷ 254 ∷ [])
unfolding little_endian
window_example = refl

nine_example : (end_of Intel 7 64 + 7) / 8 - 7 / 8 ≡ 9
nine_example = refl
