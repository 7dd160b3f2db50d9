-- A signed number that is among the tokens of a text, a number without `0x` behind an optional sign, is a decimal text.
use Rattle.std.proofs.Common.{◌≡◌, ◌∙◌, sym, ap, subst, refl, ℕ, ◌+◌, ◌<◌, ◌⊎◌, inl, inr, Bool, true, false, ◌&&◌, List, [], ◌∷◌, ◌++◌}
use Rattle.std.proofs.Common.{length, append_assoc, arith}
use Rattle.std.specs.Prelude.{Option, Some, None, All, IsTrue, codes, nat_le, if◌then◌else◌}
use Rattle.std.specs.Char.{is_ascii_digit}
use Rattle.std.specs.Str.{bytes_eq}
use Rattle.std.proofs.lemmas.Bool.{and_parts, or_cases, eqb-true}
use Rattle.std.proofs.lemmas.List.Elements.{All-nil, All-cons, All-head, All-tail}
use Rattle.std.proofs.lemmas.Slice.Eq.{bytes_eq-Decides}
use Rattle.exact_scale.specs.Digits.{IsDigit, AllDigits}
use Rattle.exact_scale.specs.Numeral as decimal
use Rattle.exact_scale.specs.Numeral.{fraction_digits, fraction_text, exponent_text, IsValidExponent, IsDecimalText}
use Rattle.sig_text.specs.Bytes.{is_nought, is_hexadecimal_mark, is_plus_or_minus}
use Rattle.sig_text.specs.Lexemes.{AreDecimalDigits, IsAfter, IsHexadecimal, IsFraction, IsBareFraction, IsPower, IsExponent, IsMantissa}
use Rattle.sig_text.specs.Lexemes.{IsDecimal, IsNumber, IsLexeme}
use Rattle.sig_text.specs.Tokens.{IsToken, AreTokens, IsTokens}
use Rattle.sig_text.specs.declared.token.TokenKind.{TokenKind}
use Rattle.sig_text.specs.declared.token.TokenKind.TheVariants.{Word, Number, Str, Sign}
use Rattle.sig_text.specs.declared.token.Token.{Token}
use Rattle.token_forms.specs.declared.numbers.SignedNumber.{SignedNumber}
use Rattle.byte_forms.specs.Pieces.{◌>>=◌}
use Rattle.token_forms.specs.Pieces.{token_text, number_at, number_by}
use Rattle.token_forms.specs.Numbers.{is_hexadecimal, is_sign_token, after_sign, signed_at, signed_text, sign_text}

-- ---- digits, a point and an exponent of a number are those of a decimal text

digit_of : (b : ℕ) → IsTrue (is_ascii_digit b) → IsDigit b
digit_of b digit = let parts = and_parts (nat_le 48 b) (nat_le b 57) digit in (grind (arith, parts.0), grind (arith, parts.1))

digits_of : (s : List ℕ) → All (λ b. IsTrue (is_ascii_digit b)) s → AllDigits s
digits_of [] each = tt
digits_of (b ∷ s) each =
    (digit_of b (All-head (λ b. IsTrue (is_ascii_digit b)) b s each), digits_of s (All-tail (λ b. IsTrue (is_ascii_digit b)) b s each))

-- a point and digits
record Pointed (s : List ℕ) : Type 0 where
  digits : List ℕ
  joined : s ≡ fraction_text (Some digits)
  all : AllDigits digits

pointed : (s : List ℕ) → IsFraction s → Pointed s
pointed [] fraction = absurd fraction
pointed (b ∷ digits) fraction =
    record { digits = digits; joined = ap (λ x. x ∷ digits) (eqb-true b 46 fraction.0); all = digits_of digits fraction.1 }

-- a mantissa
record Mantissa (s : List ℕ) : Type 0 where
  whole : List ℕ
  fraction : Option (List ℕ)
  joined : s ≡ whole ++ fraction_text fraction
  whole_digits : AllDigits whole
  fraction_all : AllDigits (fraction_digits fraction)
  some_digit : 0 < length whole + length (fraction_digits fraction)

bare_mantissa : (s : List ℕ) → IsBareFraction s → Mantissa s
bare_mantissa [] bare = absurd bare
bare_mantissa (b ∷ digits) bare = record {
  whole = [];
  fraction = Some digits;
  joined = ap (λ x. x ∷ digits) (eqb-true b 46 bare.0);
  whole_digits = tt;
  fraction_all = digits_of digits bare.1.each;
  some_digit = let some = bare.1.some in omega arith;
}

mantissa_of : (s : List ℕ) → IsMantissa s → Mantissa s
mantissa_of s mantissa = elim mantissa [
  | inr bare ↦ bare_mantissa s bare
  | inl parts ↦ elim parts.second [
    | inl nothing ↦ record {
      whole = parts.prefix;
      fraction = None;
      joined = parts.joined ∙ ap (λ r. parts.prefix ++ r) nothing;
      whole_digits = digits_of parts.prefix parts.first.each;
      fraction_all = tt;
      some_digit = let some = parts.first.some in omega arith;
    }
    | inr fraction ↦
        let p = pointed parts.rest fraction in
        record {
          whole = parts.prefix;
          fraction = Some p.digits;
          joined = parts.joined ∙ ap (λ r. parts.prefix ++ r) p.joined;
          whole_digits = digits_of parts.prefix parts.first.each;
          fraction_all = p.all;
          some_digit = let some = parts.first.some in omega arith;
        }
  ]
]

-- an exponent
record Raised (s : List ℕ) : Type 0 where
  exponent : decimal.Exponent
  joined : s ≡ exponent_text (Some exponent)
  valid : IsValidExponent (Some exponent)

-- an optional sign and digits
record Signed (s : List ℕ) : Type 0 where
  sign : decimal.Sign
  digits : List ℕ
  joined : s ≡ decimal.sign_text sign ++ digits
  all : AllDigits digits
  some : 0 < length digits

behind_mark : (b : ℕ) (digits : List ℕ) → AreDecimalDigits digits → IsTrue (is_plus_or_minus b) → Signed (b ∷ digits)
behind_mark b digits are mark = elim (or_cases _ _ mark) [
  | inl plus ↦ record {
    sign = decimal.Plus;
    digits = digits;
    joined = ap (λ x. x ∷ digits) (eqb-true b 43 plus);
    all = digits_of digits are.each;
    some = are.some;
  }
  | inr minus ↦ record {
    sign = decimal.Minus;
    digits = digits;
    joined = ap (λ x. x ∷ digits) (eqb-true b 45 minus);
    all = digits_of digits are.each;
    some = are.some;
  }
]

behind_sign : (s : List ℕ) → IsAfter is_plus_or_minus AreDecimalDigits s → Signed s
behind_sign [] after = absurd after
behind_sign (b ∷ digits) after = behind_mark b digits after.1 after.0

power_of : (s : List ℕ) → IsPower s → Signed s
power_of s power = elim power [
  | inl digits ↦ record { sign = decimal.NoSign; digits = s; joined = refl; all = digits_of s digits.each; some = digits.some }
  | inr signed ↦ behind_sign s signed
]

raised_by : (b : ℕ) (power : List ℕ) (p : Signed power) → (b ≡ 101) ⊎ (b ≡ 69) → Raised (b ∷ power)
raised_by b power p mark = record {
  exponent = record { mark = b; sign = p.sign; digits = p.digits };
  joined = ap (λ r. b ∷ r) p.joined;
  valid = (mark, p.all, p.some);
}

raised_of : (s : List ℕ) → IsExponent s → Raised s
raised_of [] exponent = absurd exponent
raised_of (b ∷ power) exponent = raised_by b power (power_of power exponent.1) (elim (or_cases _ _ exponent.0) [
  | inl small ↦ inl (eqb-true b 101 small)
  | inr large ↦ inr (eqb-true b 69 large)
])

-- ---- so a number without `0x` is a decimal text, with each sign

decimal_by : (sign : decimal.Sign) (text prefix rest : List ℕ) (m : Mantissa prefix) (exponent : Option decimal.Exponent)
    → text ≡ prefix ++ rest
    → rest ≡ exponent_text exponent → IsValidExponent exponent → IsDecimalText (decimal.sign_text sign ++ text)
decimal_by sign text prefix rest m exponent joined tail valid = (
  record { sign = sign; whole = m.whole; fraction = m.fraction; exponent = exponent },
  record {
    valid = record { whole = m.whole_digits; fraction = m.fraction_all; some_digit = m.some_digit; exponent = valid };
    joined = ap (λ t. decimal.sign_text sign ++ t)
        (joined ∙ ap (λ r. prefix ++ r) tail ∙ ap (λ f. f ++ exponent_text exponent) m.joined ∙ append_assoc m.whole
        (fraction_text m.fraction) (exponent_text exponent));
  },
)

with_sign : (sign : decimal.Sign) (text : List ℕ) → IsDecimal text → IsDecimalText (decimal.sign_text sign ++ text)
with_sign sign text d = elim d.second [
  | inl nothing ↦ decimal_by sign text d.prefix d.rest (mantissa_of d.prefix d.first) None d.joined nothing tt
  | inr exponent ↦
      let e = raised_of d.rest exponent in
      decimal_by sign text d.prefix d.rest (mantissa_of d.prefix d.first) (Some e.exponent) d.joined e.joined e.valid
]

both : (x y : Bool) → IsTrue x → IsTrue y → (x && y) ≡ true
both true y first second = second
both false y first second = first

-- what begins with `0x` is hexadecimal
marked : (text : List ℕ) → IsHexadecimal text → is_hexadecimal text ≡ true
marked [] h = absurd h
marked (a ∷ []) h = absurd h.1
marked (a ∷ b ∷ rest) h = both (is_nought a) (is_hexadecimal_mark b) h.0 h.1.0

number_with_sign : (sign : decimal.Sign) (text : List ℕ) → IsNumber text → is_hexadecimal text ≡ false
    → IsDecimalText (decimal.sign_text sign ++ text)
number_with_sign sign text number unmarked = elim number [
  | inl hexadecimal ↦ let yes = marked text hexadecimal in absurd cc
  | inr d ↦ with_sign sign text d
]

pub number_is_decimal : (text : List ℕ) → IsNumber text → is_hexadecimal text ≡ false → IsDecimalText text
number_is_decimal = number_with_sign decimal.NoSign

-- ---- and so is the signed number that is at the front of tokens

from_place : (text : List ℕ) (comments : Bool) (from : ℕ) (tokens : List Token) (to : ℕ) → AreTokens text comments from tokens to
    → All (IsToken text) tokens
from_place text comments from [] to are = All-nil (IsToken text)
from_place text comments from (t ∷ ts) to are = All-cons (IsToken text) t ts are.1 (from_place text comments t.end ts to are.2)

pub each_token : (text : List ℕ) (comments : Bool) (tokens : List Token) → IsTokens text comments tokens → All (IsToken text) tokens
each_token text comments tokens are = from_place text comments 0 tokens (length text) are

-- what is found is a decimal text
abbrev SaysDecimal : List ℕ → Option (SignedNumber × List Token) → Type 0
SaysDecimal text None = Unit {0}
SaysDecimal text (Some found) = IsDecimalText (signed_text text found.0)

abbrev after_number : List ℕ → Option Token → Option (Token × List Token) → Option (SignedNumber × List Token)
after_number text sign number = do
  found ← number
  if is_hexadecimal (token_text text found.0) then None
      else Some (record { sign = sign; number = found.0 }, found.1)

where_decimal : (text : List ℕ) (n : SignedNumber) (rest : List Token) (b : Bool) → (b ≡ false → IsDecimalText (signed_text text n))
    → SaysDecimal text (if b then None else Some (n, rest))
where_decimal text n rest true says = tt
where_decimal text n rest false says = says refl

number_says : (text : List ℕ) (sign : Option Token) (s : decimal.Sign) → sign_text text sign ≡ decimal.sign_text s
    → (token : Token) (kind : TokenKind) (rest : List Token)
    → token.kind ≡ kind → IsToken text token → SaysDecimal text (after_number text sign (number_by token kind rest))
number_says text sign s e token Word rest is there = tt
number_says text sign s e token Str rest is there = tt
number_says text sign s e token Sign rest is there = tt
number_says text sign s e token Number rest is there =
    let P : TokenKind → Type 0 = λ kind. IsLexeme kind (token_text text token) in
    let number : IsNumber (token_text text token) = subst P is there.lexeme in
    where_decimal text (record { sign = sign; number = token }) rest (is_hexadecimal (token_text text token)) (λ unmarked.
    subst (λ (t : List ℕ). IsDecimalText (t ++ token_text text token)) (sym e) (number_with_sign s (token_text text token) number unmarked))

after_says : (text : List ℕ) (sign : Option Token) (s : decimal.Sign) → sign_text text sign ≡ decimal.sign_text s
    → (tokens : List Token) → All (IsToken text) tokens
    → SaysDecimal text (after_sign text sign tokens)
unfolding number_at
after_says text sign s e [] all = tt
after_says text sign s e (token ∷ rest) all = number_says text sign s e token token.kind rest refl (All-head (IsToken text) token rest all)

sign_says : (text : List ℕ) (token : Token) (rest : List Token) → All (IsToken text) rest → is_sign_token text token ≡ true
    → SaysDecimal text (after_sign text (Some token) rest)
sign_says text token rest all is = elim
    (or_cases (bytes_eq (token_text text token) (codes "+")) (bytes_eq (token_text text token) (codes "-")) is) [
      | inl plus ↦ after_says text (Some token) decimal.Plus ((bytes_eq-Decides (token_text text token) (codes "+")).0 plus) rest all
      | inr minus ↦ after_says text (Some token) decimal.Minus ((bytes_eq-Decides (token_text text token) (codes "-")).0 minus) rest all
    ]

either_says : (text : List ℕ) (b : Bool) (x y : Option (SignedNumber × List Token)) → (b ≡ true → SaysDecimal text x)
    → SaysDecimal text y → SaysDecimal text (if b then x else y)
either_says text true x y with_it without = with_it refl
either_says text false x y with_it without = without

says_decimal : (text : List ℕ) (tokens : List Token) → All (IsToken text) tokens → SaysDecimal text (signed_at text tokens)
unfolding signed_at
says_decimal text [] all = tt
says_decimal text (token ∷ rest) all =
    either_says text (is_sign_token text token) (after_sign text (Some token) rest) (after_sign text None (token ∷ rest))
    (sign_says text token rest (All-tail (IsToken text) token rest all)) (after_says text None decimal.NoSign refl (token ∷ rest) all)

pub signed_is_decimal : (text : List ℕ) (tokens : List Token) (found : SignedNumber × List Token) → All (IsToken text) tokens
    → signed_at text tokens ≡ Some found
    → IsDecimalText (signed_text text found.0)
signed_is_decimal text tokens found all is =
    let P : Option (SignedNumber × List Token) → Type 0 = SaysDecimal text in
    subst P is (says_decimal text tokens all)
