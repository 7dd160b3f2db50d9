-- The form of a decimal text, as numbers are in DBC files: an optional sign, digits with at most one point and at
-- least one digit, and optionally `e` or `E`, an optional sign and digits; and the fraction that such a text denotes.
use Rattle.std.specs.Prelude.{◌≡◌, ℕ, ◌+◌, ◌*◌, ◌^◌, ◌<◌, ◌⊎◌, List, [], ◌∷◌, ◌++◌, length, Option, Some, None, ℤ, pos, neg_ℤ}
use Rattle.exact_scale.specs.Bytes.{plus_sign, minus_sign, decimal_point, small_e, capital_e}
use Rattle.exact_scale.specs.Digits.{AllDigits, number}
use Rattle.exact_scale.specs.Fraction.{Fraction, IsLeastDecimal}

-- an optional sign
pub data Sign : Type 0 where
  NoSign : Sign
  Plus : Sign
  Minus : Sign

abbrev pub sign_text : Sign → List ℕ
sign_text NoSign = []
sign_text Plus = plus_sign ∷ []
sign_text Minus = minus_sign ∷ []

-- a number under a sign
abbrev pub signed : Sign → ℕ → ℤ
signed NoSign n = pos n
signed Plus n = pos n
signed Minus n = neg_ℤ (pos n)

-- `e` or `E`, an optional sign and digits
pub record Exponent : Type 0 where
  pub mark : ℕ
  pub sign : Sign
  pub digits : List ℕ

-- the parts of a decimal text; the fraction is there where a point is
pub record Numeral : Type 0 where
  pub sign : Sign
  pub whole : List ℕ
  pub fraction : Option (List ℕ)
  pub exponent : Option Exponent

-- the digits after the point
abbrev pub fraction_digits : Option (List ℕ) → List ℕ
fraction_digits None = []
fraction_digits (Some digits) = digits

abbrev pub fraction_text : Option (List ℕ) → List ℕ
fraction_text None = []
fraction_text (Some digits) = decimal_point ∷ digits

abbrev pub exponent_text : Option Exponent → List ℕ
exponent_text None = []
exponent_text (Some e) = e.mark ∷ (sign_text e.sign ++ e.digits)

-- the parts joined
abbrev pub text_of : Numeral → List ℕ
text_of s = sign_text s.sign ++ (s.whole ++ (fraction_text s.fraction ++ exponent_text s.exponent))

abbrev pub IsValidExponent : Option Exponent → Type 0
IsValidExponent None = Unit {0}
IsValidExponent (Some e) = ((e.mark ≡ small_e) ⊎ (e.mark ≡ capital_e)) × AllDigits e.digits × (0 < length e.digits)

-- digits where digits belong, and at least one before the exponent
pub record IsValid (s : Numeral) : Type 0 where
  pub whole : AllDigits s.whole
  pub fraction : AllDigits (fraction_digits s.fraction)
  pub some_digit : 0 < length s.whole + length (fraction_digits s.fraction)
  pub exponent : IsValidExponent s.exponent

-- the text is made of these parts
pub record IsTextOf (text : List ℕ) (s : Numeral) : Type 0 where
  pub valid : IsValid s
  pub joined : text ≡ text_of s

-- the text is a decimal
abbrev pub IsDecimalText : List ℕ → Type 0
IsDecimalText text = (s : Numeral) × IsTextOf text s

-- how far a signed exponent goes up, and how far down
abbrev pub upward : Sign → ℕ → ℕ
upward NoSign n = n
upward Plus n = n
upward Minus n = 0

abbrev pub downward : Sign → ℕ → ℕ
downward NoSign n = 0
downward Plus n = 0
downward Minus n = n

-- by how many places an exponent raises and lowers the value: one of the two is 0
abbrev pub raised : Option Exponent → ℕ
raised None = 0
raised (Some e) = upward e.sign (number e.digits)

abbrev pub lowered : Option Exponent → ℕ
lowered None = 0
lowered (Some e) = downward e.sign (number e.digits)

-- the fraction that the parts denote: the digits as one number, moved by the exponent and by the digits after the point
abbrev pub value_of : Numeral → Fraction
value_of s = record {
  numerator = signed s.sign (number (s.whole ++ fraction_digits s.fraction) * 10 ^ raised s.exponent);
  denominator = 10 ^ (length (fraction_digits s.fraction) + lowered s.exponent);
}

-- the text denotes `n / 10^k`, with the least `k`
pub record Denotes (text : List ℕ) (n : ℤ) (k : ℕ) : Type 0 where
  pub numeral : Numeral
  pub written_so : IsTextOf text numeral
  pub least : IsLeastDecimal (value_of numeral) n k
