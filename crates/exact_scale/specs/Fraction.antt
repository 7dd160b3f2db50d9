-- Fractions of whole numbers, and those over a power of ten.
use Rattle.std.specs.Prelude.{◌≡◌, ℕ, ◌^◌, ◌≤◌, ℤ, pos, ◌*ℤ◌}

-- a whole number over a positive one
pub record Fraction : Type 0 where
  pub numerator : ℤ
  pub denominator : ℕ

-- two fractions are the same where their cross products are
pub record IsSame (a b : Fraction) : Type 0 where
  pub cross : a.numerator *ℤ pos b.denominator ≡ b.numerator *ℤ pos a.denominator

-- `n / 10^k`
abbrev pub decimal_fraction : ℤ → ℕ → Fraction
decimal_fraction n k = record { numerator = n; denominator = 10 ^ k }

-- the value is `n / 10^k`, and `k` is the least number that makes the value times `10^k` whole
pub record IsLeastDecimal (value : Fraction) (n : ℤ) (k : ℕ) : Type 0 where
  pub same : IsSame (decimal_fraction n k) value
  pub least : (j : ℕ) (m : ℤ) → IsSame (decimal_fraction m j) value → k ≤ j
