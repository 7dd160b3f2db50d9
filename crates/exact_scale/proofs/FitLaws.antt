-- That the sum of a scaling fits.
use Rattle.std.proofs.Common.{◌+◌, ◌^◌, ◌≤◌, arith, lit<, ℤ, pos, negsuc, ◌+ℤ◌, ◌*ℤ◌}
use Rattle.std.specs.Prelude.{unsigned_abs, FitsSigned}
use Rattle.std.specs.Int.{w128}
use Rattle.std.proofs.lemmas.Int.{ints, fits_signed_mul, fits_signed_from_abs, unsigned_abs-mul}
use Rattle.std.proofs.lemmas.Nat.{mul-le}
use Rattle.exact_scale.specs.Limits.{IsNarrow, IsRawValue}

raw_size : (raw : ℤ) → IsRawValue raw → unsigned_abs raw ≤ 2 ^ 64
raw_size (pos n) h = omega (arith, ints, h.1)
raw_size (negsuc n) h = omega (arith, ints, h.0)

pub product_fits : (raw factor : ℤ) → IsRawValue raw → IsNarrow factor → FitsSigned w128 (raw *ℤ factor)
product_fits raw factor r f = fits_signed_mul w128 raw factor (2 ^ 64) (2 ^ 62) (raw_size raw r) (omega arith) (lit< tt)

sum_size : (a b : ℤ) → unsigned_abs (a +ℤ b) ≤ unsigned_abs a + unsigned_abs b
sum_size (pos a) (pos b) = omega arith
sum_size (pos a) (negsuc b) = omega (arith, ints)
sum_size (negsuc a) (pos b) = omega (arith, ints)
sum_size (negsuc a) (negsuc b) = omega arith

pub sum_fits : (raw factor offset : ℤ) → IsRawValue raw → IsNarrow factor → IsNarrow offset → FitsSigned w128 ((raw *ℤ factor) +ℤ offset)
sum_fits raw factor offset r f o =
    fits_signed_from_abs w128 ((raw *ℤ factor) +ℤ offset)
    (omega (arith, sum_size (raw *ℤ factor) offset, unsigned_abs-mul raw factor, mul-le (unsigned_abs raw) (unsigned_abs factor) (2 ^ 64) (2 ^ 62) (raw_size raw r) (omega arith)))
