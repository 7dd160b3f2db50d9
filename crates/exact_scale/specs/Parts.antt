-- What the reader's steps say to one another: where a text is cut, and numbers that are kept up to a bound.
use Rattle.std.specs.Prelude.{◌≡◌, ℕ, ◌*◌, ◌^◌, ◌-◌, ◌%◌, ◌<◌, ◌≤◌, min, ◌⊎◌, Bool, true, false, List, [], ◌∷◌, ◌++◌, length, Option, Some, None}
use Rattle.exact_scale.specs.Bytes.{plus_sign, minus_sign, decimal_point}
use Rattle.exact_scale.specs.Digits.{IsDigit, AllDigits, number}
use Rattle.exact_scale.specs.Limits.{most_places, numerator_limit}
use Rattle.exact_scale.specs.Numeral.{Sign, NoSign, Plus, Minus, sign_text, Exponent, Numeral, fraction_digits, fraction_text, exponent_text, IsValidExponent, IsTextOf, upward, downward, raised, lowered}

-- the bytes are none or begin with something else than a digit
abbrev pub NoDigitFirst : List ℕ → Type 0
NoDigitFirst [] = Unit {0}
NoDigitFirst (byte ∷ bytes) = IsDigit byte → ⊥

abbrev pub NoPointFirst : List ℕ → Type 0
NoPointFirst [] = Unit {0}
NoPointFirst (byte ∷ bytes) = byte ≡ decimal_point → ⊥

abbrev pub NoSignFirst : List ℕ → Type 0
NoSignFirst [] = Unit {0}
NoSignFirst (byte ∷ bytes) = (byte ≡ plus_sign → ⊥) × (byte ≡ minus_sign → ⊥)

-- where no sign was taken, the rest begins with none
abbrev pub TakesSign : Sign → List ℕ → Type 0
TakesSign NoSign body = NoSignFirst body
TakesSign Plus body = Unit {0}
TakesSign Minus body = Unit {0}

-- where no point was taken, the rest begins with none
abbrev pub TakesPoint : Option (List ℕ) → List ℕ → Type 0
TakesPoint None rest = NoPointFirst rest
TakesPoint (Some digits) rest = Unit {0}

abbrev pub is_minus : Sign → Bool
is_minus NoSign = false
is_minus Plus = false
is_minus Minus = true

-- a text is its sign and what follows
pub record SignSplit (text : List ℕ) (negative : Bool) (body : List ℕ) : Type 0 where
  pub sign : Sign
  pub joined : text ≡ sign_text sign ++ body
  pub takes : TakesSign sign body
  pub minus : is_minus sign ≡ negative

-- a text is the digits in front and what follows
pub record DigitSplit (text prefix back : List ℕ) : Type 0 where
  pub joined : text ≡ prefix ++ back
  pub digits : AllDigits prefix
  pub stop : NoDigitFirst back

-- a text is a point with digits, or neither, and what follows
pub record PointSplit (text digits tail : List ℕ) : Type 0 where
  pub fraction : Option (List ℕ)
  pub joined : text ≡ fraction_text fraction ++ tail
  pub shown : fraction_digits fraction ≡ digits
  pub all : AllDigits digits
  pub takes : TakesPoint fraction tail
  pub stop : NoDigitFirst tail

-- a number, or the bound where it is greater
abbrev pub capped : ℕ → ℕ
capped n = min n (2 ^ 100)

-- the text is an exponent or nothing, by which the value is raised and lowered
pub record ExponentRead (text : List ℕ) (up down : ℕ) : Type 0 where
  pub exponent : Option Exponent
  pub valid : IsValidExponent exponent
  pub joined : text ≡ exponent_text exponent
  pub upward : up ≡ capped (raised exponent)
  pub downward : down ≡ capped (lowered exponent)

-- the text is neither
abbrev pub NoExponent : List ℕ → Type 0
NoExponent text = (exponent : Option Exponent) → IsValidExponent exponent → text ≡ exponent_text exponent → ⊥

-- what follows the mark of an exponent
pub record SignedRead (text : List ℕ) (up down : ℕ) : Type 0 where
  pub sign : Sign
  pub digits : List ℕ
  pub all : AllDigits digits
  pub some_digit : 0 < length digits
  pub joined : text ≡ sign_text sign ++ digits
  pub upward : up ≡ capped (upward sign (number digits))
  pub downward : down ≡ capped (downward sign (number digits))

-- what follows is no sign and digits
abbrev pub NoSigned : List ℕ → Type 0
NoSigned text = (sign : Sign) (digits : List ℕ) → AllDigits digits → 0 < length digits → text ≡ sign_text sign ++ digits → ⊥

-- the parts of a decimal text
pub record HasParts (text : List ℕ) (negative : Bool) (before after : List ℕ) (up down : ℕ) : Type 0 where
  pub numeral : Numeral
  pub written_so : IsTextOf text numeral
  pub minus : is_minus numeral.sign ≡ negative
  pub whole : numeral.whole ≡ before
  pub fraction : fraction_digits numeral.fraction ≡ after
  pub upward : up ≡ capped (raised numeral.exponent)
  pub downward : down ≡ capped (lowered numeral.exponent)

-- `n` is a number that does not end in 0, which is kept up to 2^62, with zeros behind it; 0 has none
pub record IsSignificand (n size zeros : ℕ) : Type 0 where
  pub short : ℕ
  pub same : n ≡ short * 10 ^ zeros
  pub last : ((short ≡ 0) × (zeros ≡ 0)) ⊎ (0 < short % 10)
  pub kept : size ≡ min short numerator_limit

-- `above / below` is `n / 10^k`, with the least `k`
pub record IsLeastSize (above below n k : ℕ) : Type 0 where
  pub same : n * below ≡ above * 10 ^ k
  pub least : (j m : ℕ) → m * below ≡ above * 10 ^ j → k ≤ j

-- the least decimal is past the limits
pub record LeastSizeTooWide (above below : ℕ) : Type 0 where
  pub size : ℕ
  pub places : ℕ
  pub least : IsLeastSize above below size places
  pub wide : (most_places < places) ⊎ (numerator_limit ≤ size)

-- a number that does not end in 0, or 0, to be raised and lowered: kept are the number up to 2^62, and by how much more it is
-- raised than lowered or lowered than raised, which decide alike below 64
pub record Moves (size up down short rise fall : ℕ) : Type 0 where
  pub kept : size ≡ min short numerator_limit
  pub last : (short ≡ 0) ⊎ (0 < short % 10)
  pub upward : min up 64 ≡ min (rise - fall) 64
  pub downward : min down 64 ≡ min (fall - rise) 64
