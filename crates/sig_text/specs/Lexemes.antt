-- How each kind of token is formed, in DBC text and in LDF text alike.
use Rattle.std.specs.Prelude.{◌≡◌, ◌≢◌, ℕ, ◌+◌, ◌-◌, ◌<◌, Bool, ◌⊎◌, List, [], ◌∷◌, ◌++◌, length, slice_index, IsTrue, All}
use Rattle.std.specs.Char.{is_ascii_digit, is_ascii_hexdigit}
use Rattle.sig_text.specs.Bytes.{quote, backslash, is_word_start, is_word_byte, is_nought, is_point, is_hexadecimal_mark, is_exponent_mark, is_plus_or_minus, is_sign}
use Rattle.sig_text.specs.declared.token.TokenKind.{TokenKind}
use Rattle.sig_text.specs.declared.token.TokenKind.TheVariants.{Word, Number, Str, Sign}

-- a letter or `_`, then letters, digits and `_`
pub record IsWord (text : List ℕ) : Type 0 where
  pub start : IsTrue (is_word_start (slice_index text 0))
  pub bytes : All (λ b. IsTrue (is_word_byte b)) text

-- one digit or more
pub record AreDigits (is_digit : ℕ → Bool) (digits : List ℕ) : Type 0 where
  pub some : 0 < length digits
  pub each : All (λ b. IsTrue (is_digit b)) digits

abbrev pub AreDecimalDigits : List ℕ → Type 0
AreDecimalDigits = AreDigits is_ascii_digit

-- one byte of the class, then the language
abbrev pub IsAfter : (ℕ → Bool) → (List ℕ → Type 0) → List ℕ → Type 0
IsAfter is_mark Rest [] = ⊥
IsAfter is_mark Rest (mark ∷ rest) = IsTrue (is_mark mark) × Rest rest

-- `0x` or `0X` and hexadecimal digits
abbrev pub IsHexadecimal : List ℕ → Type 0
IsHexadecimal = IsAfter is_nought (IsAfter is_hexadecimal_mark (AreDigits is_ascii_hexdigit))

-- a point and digits, possibly none
abbrev pub IsFraction : List ℕ → Type 0
IsFraction = IsAfter is_point (All (λ b. IsTrue (is_ascii_digit b)))

-- a point and digits
abbrev pub IsBareFraction : List ℕ → Type 0
IsBareFraction = IsAfter is_point AreDecimalDigits

-- an optional `+` or `-`, and digits
abbrev pub IsPower : List ℕ → Type 0
IsPower text = AreDecimalDigits text ⊎ IsAfter is_plus_or_minus AreDecimalDigits text

-- `e` or `E`, and the power of ten
abbrev pub IsExponent : List ℕ → Type 0
IsExponent = IsAfter is_exponent_mark IsPower

-- the first language, then optionally the second
pub record IsWithOption (First Second : List ℕ → Type 0) (text : List ℕ) : Type 0 where
  pub prefix : List ℕ
  pub rest : List ℕ
  pub joined : text ≡ prefix ++ rest
  pub first : First prefix
  pub second : (rest ≡ []) ⊎ Second rest

-- digits, optionally a point and digits, possibly none; or a point and digits
abbrev pub IsMantissa : List ℕ → Type 0
IsMantissa text = IsWithOption AreDecimalDigits IsFraction text ⊎ IsBareFraction text

abbrev pub IsDecimal : List ℕ → Type 0
IsDecimal = IsWithOption IsMantissa IsExponent

-- an exponent belongs to a decimal number alone
abbrev pub IsNumber : List ℕ → Type 0
IsNumber text = IsHexadecimal text ⊎ IsDecimal text

-- The quote at this place ends the string that begins the text: no backslash is directly before it,
-- whatever is before that backslash.
pub record ClosesString (text : List ℕ) (place : ℕ) : Type 0 where
  pub inside : 0 < place
  pub closing : slice_index text place ≡ quote
  pub unescaped : slice_index text (place - 1) ≢ backslash

-- a quote, the content, and the first quote that closes it
pub record IsString (text : List ℕ) : Type 0 where
  pub opening : slice_index text 0 ≡ quote
  pub closed : ClosesString text (length text - 1)
  pub first : (place : ℕ) → place + 1 < length text → ¬ ClosesString text place

-- one mark of the grammars
abbrev pub IsSign : List ℕ → Type 0
IsSign [] = ⊥
IsSign (b ∷ []) = IsTrue (is_sign b)
IsSign (b ∷ c ∷ rest) = ⊥

-- the bytes form a token of this kind
abbrev pub IsLexeme : TokenKind → List ℕ → Type 0
IsLexeme Word = IsWord
IsLexeme Number = IsNumber
IsLexeme Str = IsString
IsLexeme Sign = IsSign
