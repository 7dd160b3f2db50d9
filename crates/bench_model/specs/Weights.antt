-- The bits of a signal one by one: of a little-endian one the bit at start + t weighs 2 ^ t, and those of a
-- big-endian one follow one another as the bytes are read.
use Rattle.std.specs.Prelude.{ℕ, zero, suc, ◌+◌, ◌-◌, ◌*◌, ◌/◌, ◌%◌, ◌^◌, List, [], ◌∷◌, ◌++◌}
use Rattle.bench_model.specs.Raw.{bit}

-- the sum of the weights of the set bits among so many from start on
unfoldable pub intel_sum : List ℕ → ℕ → ℕ → ℕ
intel_sum bytes start zero = 0
intel_sum bytes start (suc n) = intel_sum bytes start n + bit bytes (start + n) * 2 ^ n

-- so many places from start on, upwards
unfoldable pub upwards : ℕ → ℕ → List ℕ
upwards start zero = []
upwards start (suc n) = upwards start n ++ (start + n) ∷ []

-- the place p where the bits of each byte are counted from the most significant one, or the other way round
abbrev pub as_read : ℕ → ℕ
as_read p = p / 8 * 8 + (7 - p % 8)
