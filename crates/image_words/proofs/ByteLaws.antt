-- Joined bytes are small numbers, and their bits are shifted and masked.
use Rattle.std.proofs.Common.{◌≡◌, ◌∙◌, ℕ, zero, ◌-◌, ◌*◌, ◌/◌, ◌%◌, ◌^◌, ◌<◌, ◌≤◌, List, length, ap, sym, arith}
use Rattle.std.specs.Prelude.{bit_and}
use Rattle.std.proofs.lemmas.Nat.{and_mask, one_shl}
use Rattle.std.proofs.Math.Nat.{pow-le-pow_right}
use Rattle.bench_model.specs.declared.database.Order.{Order}
use Rattle.bench_model.specs.declared.database.Order.TheVariants.{Intel, Motorola}
use Rattle.bench_model.specs.Shifts.{little_endian, big_endian, end_of, shifted_bits}

pub small_number : (n k : ℕ) → n < 256 ^ k → k ≤ 9 → n < 256 ^ 9
small_number n k h few =
    let some : zero < 256 = omega arith in
    let most : 256 ^ k ≤ 256 ^ 9 = pow-le-pow_right some few in
    omega (arith, h, most)

masked : (n size : ℕ) → size ≤ 64 → bit_and n (1 * 2 ^ size % 2 ^ 128 - 1) ≡ n % 2 ^ size
masked n size small =
    let mask : 1 * 2 ^ size % 2 ^ 128 - 1 ≡ 2 ^ size - 1 = ap (λ (x : ℕ). x - 1) (one_shl size 128 (omega arith)) in
    ap (bit_and n) mask ∙ and_mask n size

pub intel_bits : (order : Order) (first size n number : ℕ) (bytes : List ℕ) → order ≡ Intel → size ≤ 64 → n ≡ little_endian bytes →
    number ≡ n / 2 ^ first → bit_and number (1 * 2 ^ size % 2 ^ 128 - 1) ≡ shifted_bits order first size bytes
intel_bits order first size n number bytes o small e f =
    masked number size small
    ∙ ap (λ (x : ℕ). x % 2 ^ size) (f ∙ ap (λ (x : ℕ). x / 2 ^ first) e)
    ∙ ap (λ (p : Order). shifted_bits p first size bytes) (sym o)

pub motorola_bits : (order : Order) (first size n number shift : ℕ) (bytes : List ℕ) → order ≡ Motorola → size ≤ 64 → n ≡ big_endian bytes →
    number ≡ n / 2 ^ shift → shift ≡ 8 * length bytes - end_of Motorola first size →
    bit_and number (1 * 2 ^ size % 2 ^ 128 - 1) ≡ shifted_bits order first size bytes
motorola_bits order first size n number shift bytes o small e f s =
    masked number size small
    ∙ ap (λ (x : ℕ). x % 2 ^ size) (f ∙ ap (λ (x : ℕ). n / 2 ^ x) s ∙ ap (λ (x : ℕ). x / 2 ^ (8 * length bytes - end_of Motorola first size)) e)
    ∙ ap (λ (p : Order). shifted_bits p first size bytes) (sym o)
