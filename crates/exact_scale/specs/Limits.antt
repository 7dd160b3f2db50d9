-- The limits of a scaling, and those of a raw value.
use Rattle.std.specs.Prelude.{ℕ, List, ◌^◌, ◌-◌, ◌<◌, ◌≤◌, ◌⊎◌, ℤ, pos, neg_ℤ, ◌*ℤ◌, ◌≤ℤ◌, unsigned_abs}
use Rattle.exact_scale.specs.declared.scaling.Scale.{Scale}
use Rattle.exact_scale.specs.Numeral.{Denotes}

-- how many places may be after the point, and what numerators are below in size
abbrev pub most_places : ℕ
most_places = 30

abbrev pub numerator_limit : ℕ
numerator_limit = 2 ^ 62

-- a numerator within the limit
abbrev pub IsNarrow : ℤ → Type 0
IsNarrow n = unsigned_abs n < numerator_limit

-- a scale within the limits: both numerators, and its places
pub record IsScale (scale : Scale) : Type 0 where
  pub factor : IsNarrow scale.factor
  pub offset : IsNarrow scale.offset
  pub places : scale.k ≤ most_places

-- `n / 10^k` is past the limits
abbrev pub IsTooWide : ℤ → ℕ → Type 0
IsTooWide n k = (most_places < k) ⊎ (numerator_limit ≤ unsigned_abs n)

-- the text denotes a decimal past the limits
pub record DenotesTooWide (text : List ℕ) : Type 0 where
  pub num : ℤ
  pub places : ℕ
  pub denotes : Denotes text num places
  pub wide : IsTooWide num places

-- the numerator over `10^to` of what is `n / 10^k`, for `k` at most `to`
abbrev pub numerator_over : ℕ → ℤ → ℕ → ℤ
numerator_over to n k = n *ℤ pos (10 ^ (to - k))

-- the size of the least raw value, which is below 0, and the greatest raw value
abbrev pub least_raw_size : ℕ
least_raw_size = 2 ^ 63

abbrev pub greatest_raw : ℕ
greatest_raw = 2 ^ 64 - 1

-- the values of a signal of at most 64 bits, signed or not
abbrev pub IsRawValue : ℤ → Type 0
IsRawValue raw = (neg_ℤ (pos least_raw_size) ≤ℤ raw) × (raw ≤ℤ pos greatest_raw)
