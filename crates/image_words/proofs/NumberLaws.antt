-- A raw value is kept where it is passed on as 128 bits.
use Rattle.std.proofs.Common.{◌≡◌, ℤ, to_z, of_z, arith}
use Rattle.std.specs.Int.{w128}
use Rattle.std.proofs.lemmas.Int.{ints}
use Rattle.exact_scale.specs.Limits.{IsRawValue}

pub raw_kept : (raw : ℤ) → IsRawValue raw → to_z w128 (of_z w128 raw) ≡ raw
raw_kept raw h = omega (arith, ints, h.0, h.1)
