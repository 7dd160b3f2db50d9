-- Each text has a longest prefix that is a number, if only the empty one.
use Rattle.std.proofs.Common.{◌≡◌, ℕ, ◌+◌, ◌<◌, Bool, false, List, [], ◌∷◌, length, get_or, drop, refl, subst, ◌⊎◌, inl, inr, arith}
use Rattle.std.specs.Prelude.{IsTrue, All}
use Rattle.std.specs.List.{prefix_len}
use Rattle.std.specs.Char.{is_ascii_digit, is_ascii_hexdigit}
use Rattle.std.proofs.lemmas.Bool.{cases_lt, cases_eq, cases_Bool, ne_eqb}
use Rattle.sig_text.specs.Bytes.{is_point, is_nought, is_hexadecimal_mark, is_exponent_mark, is_plus_or_minus}
use Rattle.sig_text.specs.Prefixes.{IsLongestPrefix}
use Rattle.sig_text.specs.Lexemes.{AreDigits, AreDecimalDigits, IsAfter, IsHexadecimal, IsFraction, IsBareFraction, IsPower, IsExponent, IsWithOption, IsMantissa, IsDecimal, IsNumber}
use Rattle.sig_text.proofs.PrefixLaws.{digits_prefix, after_prefix, after_nothing, after_other, fraction_prefix, option_prefix, option_nothing}
use Rattle.sig_text.proofs.NumberLaws.{either_prefix, or_prefix, no_digits, fraction_begins, is_mantissa_byte, mantissa_bytes, exponent_begins, no_mantissa}

-- some prefix is the longest that the language has
abbrev pub HasLongest : (List ℕ → Type 0) → List ℕ → Type 0
HasLongest Language text = (n : ℕ) × IsLongestPrefix Language text n

-- of a choice, the longer one
longest_of_either : (P Q : List ℕ → Type 0) (text : List ℕ) → HasLongest P text → HasLongest Q text → HasLongest (λ s. P s ⊎ Q s) text
longest_of_either P Q text first second =
    elim (cases_lt first.0 second.0) [
      | inl longer ↦ (second.0, or_prefix P Q text first.0 second.0 first.1 second.1 (omega arith))
      | inr fits ↦ (first.0, either_prefix P Q text first.0 second.0 first.1 second.1 fits)
    ]

-- behind a byte of a class, that of the rest
longest_after : (p : ℕ → Bool) (Rest : List ℕ → Type 0) → (Rest [] → ⊥) → ((s : List ℕ) → HasLongest Rest s) → (text : List ℕ) → HasLongest (IsAfter p Rest) text
longest_after p Rest none longest [] = (0, record { within = omega arith; lexeme = λ some. absurd (omega arith); longest = λ m inside lexeme. inside })
longest_after p Rest none longest (b ∷ rest) =
    elim (cases_Bool (p b)) [
      | inl pass ↦
          let found = longest rest in
          elim (cases_lt 0 found.0) [
            | inl some ↦ (1 + found.0, after_prefix p Rest (b ∷ rest) found.0 (omega arith) pass some found.1)
            | inr nothing ↦
                let is_zero : found.0 ≡ 0 = omega arith in
                (0, after_nothing p Rest (b ∷ rest) none (subst (IsLongestPrefix Rest rest) is_zero found.1))
          ]
      | inr other ↦ (0, after_other p Rest (b ∷ rest) other)
    ]

-- of a language and then optionally another, that of the first and behind it that of the second
longest_with_option : (First Second : List ℕ → Type 0) (c : ℕ → Bool) → ((s : List ℕ) → First s → All (λ b. IsTrue (c b)) s) → ((s : List ℕ) → Second s → (0 < length s) × (c (get_or s 0 0) ≡ false)) → (First [] → ⊥) → ((s : List ℕ) → HasLongest First s) → ((s : List ℕ) → HasLongest Second s) → (text : List ℕ) → HasLongest (IsWithOption First Second) text
longest_with_option First Second c of_first of_second none first second text =
    let prefix = first text in
    let rest = second (drop prefix.0 text) in
    elim (cases_lt 0 prefix.0) [
      | inl some ↦ (prefix.0 + rest.0, option_prefix First Second c of_first of_second text prefix.0 rest.0 some prefix.1 rest.1)
      | inr nothing ↦
          let is_zero : prefix.0 ≡ 0 = omega arith in
          (0, option_nothing First Second c of_first of_second text none (subst (IsLongestPrefix First text) is_zero prefix.1))
    ]

-- of digits, the run of them
longest_digits : (p : ℕ → Bool) (text : List ℕ) → HasLongest (AreDigits p) text
longest_digits p text = (prefix_len p text, digits_prefix p text)

longest_decimal_digits : (text : List ℕ) → HasLongest AreDecimalDigits text
longest_decimal_digits = longest_digits is_ascii_digit

-- digits of any class are one or more
no_digits_of : (p : ℕ → Bool) → AreDigits p [] → ⊥
no_digits_of p digits = absurd (omega (arith, digits.some))

-- a power has digits
no_power : IsPower [] → ⊥
no_power power = elim power [ inl digits ↦ no_digits digits | inr signed ↦ signed ]

longest_hexadecimal : (text : List ℕ) → HasLongest IsHexadecimal text
longest_hexadecimal =
    longest_after is_nought (IsAfter is_hexadecimal_mark (AreDigits is_ascii_hexdigit)) (λ none. none)
    (longest_after is_hexadecimal_mark (AreDigits is_ascii_hexdigit) (no_digits_of is_ascii_hexdigit) (longest_digits is_ascii_hexdigit))

-- behind a point there may be no digits
longest_fraction : (text : List ℕ) → HasLongest IsFraction text
longest_fraction [] = (0, record { within = omega arith; lexeme = λ some. absurd (omega arith); longest = λ m inside lexeme. inside })
longest_fraction (b ∷ digits) =
    elim (cases_eq b 46) [
      | inl point ↦ (1 + prefix_len is_ascii_digit digits, fraction_prefix (b ∷ digits) (prefix_len is_ascii_digit digits) (omega arith) point refl)
      | inr other ↦ (0, after_other is_point (All (λ b. IsTrue (is_ascii_digit b))) (b ∷ digits) (ne_eqb b 46 other))
    ]

longest_power : (text : List ℕ) → HasLongest IsPower text
longest_power text =
    longest_of_either AreDecimalDigits (IsAfter is_plus_or_minus AreDecimalDigits) text (longest_decimal_digits text)
    (longest_after is_plus_or_minus AreDecimalDigits no_digits longest_decimal_digits text)

longest_exponent : (text : List ℕ) → HasLongest IsExponent text
longest_exponent = longest_after is_exponent_mark IsPower no_power longest_power

longest_mantissa : (text : List ℕ) → HasLongest IsMantissa text
longest_mantissa text =
    longest_of_either (IsWithOption AreDecimalDigits IsFraction) IsBareFraction text
    (longest_with_option AreDecimalDigits IsFraction is_ascii_digit (λ s digits. digits.each) fraction_begins no_digits longest_decimal_digits longest_fraction text)
    (longest_after is_point AreDecimalDigits no_digits longest_decimal_digits text)

longest_decimal : (text : List ℕ) → HasLongest IsDecimal text
longest_decimal = longest_with_option IsMantissa IsExponent is_mantissa_byte mantissa_bytes exponent_begins no_mantissa longest_mantissa longest_exponent

pub longest_number : (text : List ℕ) → HasLongest IsNumber text
longest_number text = longest_of_either IsHexadecimal IsDecimal text (longest_hexadecimal text) (longest_decimal text)
