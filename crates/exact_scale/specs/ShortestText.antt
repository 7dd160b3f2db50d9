-- The shortest decimal text of a fraction over a power of ten.
use Rattle.std.specs.Prelude.{◌≡◌, ◌≢◌, ℕ, ◌/◌, ◌%◌, ◌^◌, ◌<◌, ◌≤◌, ◌<ℤ◌, ◌↔◌, ◌==◌, List, [], ◌∷◌, ◌++◌, length, slice_index, if◌then◌else◌, Some, None, ℤ, pos, negsuc, unsigned_abs}
use Rattle.std.specs.List.{list_all}
use Rattle.exact_scale.specs.Bytes.{minus_sign, decimal_point, digit_zero}
use Rattle.exact_scale.specs.Digits.{decimal_digits, last_digits}
use Rattle.exact_scale.specs.Fraction.{IsSame, decimal_fraction}
use Rattle.exact_scale.specs.Numeral.{Plus, Minus, Numeral, text_of, IsTextOf, IsValid, value_of}

-- `-` where the number is negative
abbrev pub minus_of : ℤ → List ℕ
minus_of (pos n) = []
minus_of (negsuc n) = minus_sign ∷ []

-- digits without their trailing zeros
abbrev pub without_last_zeros : List ℕ → List ℕ
without_last_zeros [] = []
without_last_zeros (digit ∷ digits) = if list_all (λ d. d == digit_zero) (digit ∷ digits) then [] else digit ∷ without_last_zeros digits

-- a point and the digits of `rest / 10^k` without trailing zeros, or nothing where `rest` is 0
abbrev pub point_text : ℕ → ℕ → List ℕ
point_text k rest = if rest == 0 then [] else decimal_point ∷ without_last_zeros (last_digits k rest)

-- the text of `size / 10^k` for a size that is not negative: the whole part and the fraction
abbrev pub size_text : ℕ → ℕ → List ℕ
size_text size k = decimal_digits (size / 10 ^ k) ++ point_text k (size % 10 ^ k)

-- the text of `n / 10^k`
abbrev pub decimal_text : ℤ → ℕ → List ℕ
decimal_text n k = minus_of n ++ size_text (unsigned_abs n) k

-- without an exponent, and with a digit before the point
pub record IsPlain (s : Numeral) : Type 0 where
  pub no_exponent : s.exponent ≡ None
  pub whole_digit : 0 < length s.whole

-- the text is the shortest plain decimal of `n / 10^k`
pub record IsShortestText (text : List ℕ) (n : ℤ) (k : ℕ) : Type 0 where
  pub numeral : Numeral
  pub written_so : IsTextOf text numeral
  pub plain : IsPlain numeral
  pub denotes : IsSame (value_of numeral) (decimal_fraction n k)
  pub no_plus : numeral.sign ≢ Plus
  pub minus : (numeral.sign ≡ Minus) ↔ (n <ℤ pos 0)
  pub no_leading_zero : slice_index numeral.whole 0 ≡ digit_zero → length numeral.whole ≡ 1
  pub no_trailing_zero : (digits : List ℕ) → numeral.fraction ≡ Some digits →
      (prefix : List ℕ) × (last : ℕ) × (digits ≡ prefix ++ last ∷ []) × (last ≢ digit_zero)
  pub shortest : (other : Numeral) → IsValid other → IsPlain other →
      IsSame (value_of other) (decimal_fraction n k) → length text ≤ length (text_of other)
