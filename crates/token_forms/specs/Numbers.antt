-- Numbers out of tokens, in the words of the DBC and LDF grammars: a whole number is digits alone, a signed number is
-- a number without `0x` behind an optional `+` or `-` token.
use Rattle.std.specs.Prelude.{ℕ, ◌||◌, ◌&&◌, ℤ, pos, neg_ℤ, Bool, false, List, [], ◌∷◌, ◌++◌, drop, Option, Some, None, codes, if◌then◌else◌}
use Rattle.std.specs.Option.{option_map}
use Rattle.std.specs.Str.{bytes_eq}
use Rattle.exact_scale.specs.Numeral.{Denotes}
use Rattle.exact_scale.specs.Limits.{IsTooWide, least_raw_size, greatest_raw}
use Rattle.byte_forms.specs.declared.numerals.Radix.TheVariants.{Decimal, Hexadecimal}
use Rattle.byte_forms.specs.Numerals.{number_up_to, is_numeral}
use Rattle.byte_forms.specs.Pieces.{◌>>=◌}
use Rattle.sig_text.specs.declared.token.Token.{Token}
use Rattle.sig_text.specs.Bytes.{is_nought, is_hexadecimal_mark}
use Rattle.token_forms.specs.declared.numbers.SignedNumber.{SignedNumber}
use Rattle.token_forms.specs.Pieces.{token_text, number_at}

-- a number of digits alone that is at most the limit
unfoldable pub whole_at : List ℕ → ℕ → List Token → Option (ℕ × List Token)
whole_at text limit tokens = do
  found ← number_at tokens
  number ← number_up_to Decimal limit (token_text text found.0)
  Some (number, found.1)

-- a number of digits alone, of any size
unfoldable pub digits_at : List ℕ → List Token → Option (Token × List Token)
digits_at text tokens = do
  found ← number_at tokens
  if is_numeral Decimal (token_text text found.0) then Some found else None

-- `0x` or `0X` begins a hexadecimal number
abbrev pub is_hexadecimal : List ℕ → Bool
is_hexadecimal [] = false
is_hexadecimal (a ∷ []) = false
is_hexadecimal (a ∷ b ∷ rest) = is_nought a && is_hexadecimal_mark b

-- a number of digits alone, or of `0x` and hexadecimal digits, that is at most the limit
abbrev pub number_in : ℕ → List ℕ → Option ℕ
number_in limit text =
    if is_hexadecimal text then number_up_to Hexadecimal limit (drop 2 text) else number_up_to Decimal limit text

unfoldable pub number_up_to_at : List ℕ → ℕ → List Token → Option (ℕ × List Token)
number_up_to_at text limit tokens = do
  found ← number_at tokens
  number ← number_in limit (token_text text found.0)
  Some (number, found.1)

-- whether a token is `+` or `-`
abbrev pub is_sign_token : List ℕ → Token → Bool
is_sign_token text token = bytes_eq (token_text text token) (codes "+") || bytes_eq (token_text text token) (codes "-")

-- the number of a signed number, behind the sign
abbrev pub after_sign : List ℕ → Option Token → List Token → Option (SignedNumber × List Token)
after_sign text sign tokens = do
  found ← number_at tokens
  if is_hexadecimal (token_text text found.0) then None
      else Some (record { sign = sign; number = found.0 }, found.1)

unfoldable pub signed_at : List ℕ → List Token → Option (SignedNumber × List Token)
signed_at text [] = None
signed_at text (token ∷ rest) =
    if is_sign_token text token then after_sign text (Some token) rest else after_sign text None (token ∷ rest)

-- the text of a signed number: its sign, if it has one, and its number, without what is between them
abbrev pub sign_text : List ℕ → Option Token → List ℕ
sign_text text None = []
sign_text text (Some sign) = token_text text sign

abbrev pub signed_text : List ℕ → SignedNumber → List ℕ
signed_text text n = sign_text text n.sign ++ token_text text n.number

-- the text denotes no decimal within the limits
abbrev pub HasNoDecimal : List ℕ → Type 0
HasNoDecimal text = (num : ℤ) (k : ℕ) → Denotes text num k → IsTooWide num k

-- whether a number is below 0 by its sign
abbrev pub is_minus : List ℕ → Option Token → Bool
is_minus text None = false
is_minus text (Some sign) = bytes_eq (token_text text sign) (codes "-")

-- the whole number among the raw values of signals that digits with an optional sign denote
unfoldable pub whole_value : List ℕ → SignedNumber → Option ℤ
whole_value text n =
    if is_minus text n.sign
    then option_map (λ size. neg_ℤ (pos size)) (number_up_to Decimal least_raw_size (token_text text n.number))
    else option_map pos (number_up_to Decimal greatest_raw (token_text text n.number))
