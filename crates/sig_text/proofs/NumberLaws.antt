-- The longest prefix of a text that is a number, from the runs of digits in it.
use Rattle.std.proofs.Common.{◌≡◌, ℕ, ◌+◌, ◌<◌, ◌≤◌, Bool, true, false, ◌||◌, List, [], ◌∷◌, ◌++◌, length, get_or, take, drop, sym, refl, ap, ◌∙◌, subst, ◌⊎◌, inl, inr, arith, length-append, length-drop, length-take-le, get_or-drop, zero, suc}
use Rattle.std.specs.Prelude.{IsTrue, All}
use Rattle.std.specs.List.{prefix_len}
use Rattle.std.specs.Char.{is_ascii_digit, is_ascii_hexdigit}
use Rattle.std.proofs.lemmas.Bool.{both_ways, or_cases, eqb-true, or_left, or_right}
use Rattle.std.proofs.lemmas.List.{drop-drop}
use Rattle.std.proofs.lemmas.List.Elements.{All-weaker, All-append, All-cons}
use Rattle.std.proofs.lemmas.List.Sums.{prefix_len_passes}
use Rattle.sig_text.specs.Prefixes.{IsLongestPrefix}
use Rattle.sig_text.specs.Bytes.{is_point, is_nought, is_hexadecimal_mark, is_plus_or_minus}
use Rattle.sig_text.specs.Lexemes.{AreDigits, AreDecimalDigits, IsAfter, IsWithOption, IsHexadecimal, IsFraction, IsBareFraction, IsPower, IsExponent, IsMantissa, IsDecimal}
use Rattle.sig_text.proofs.PrefixLaws.{digits_prefix, after_prefix, after_other, option_prefix, option_nothing}

-- the longest prefix of either language, where that of the first is the longer
pub either_prefix : (P Q : List ℕ → Type 0) (text : List ℕ) (n k : ℕ) → IsLongestPrefix P text n → IsLongestPrefix Q text k → k ≤ n → IsLongestPrefix (λ s. P s ⊎ Q s) text n
either_prefix P Q text n k first second less = record {
  within = first.within;
  lexeme = λ some. inl (first.lexeme some);
  longest = λ m inside lexeme. elim lexeme [ inl p ↦ first.longest m inside p | inr q ↦ omega (arith, second.longest m inside q) ];
}

-- the same, where that of the second is the longer
pub or_prefix : (P Q : List ℕ → Type 0) (text : List ℕ) (n k : ℕ) → IsLongestPrefix P text n → IsLongestPrefix Q text k → n ≤ k → IsLongestPrefix (λ s. P s ⊎ Q s) text k
or_prefix P Q text n k first second less = record {
  within = second.within;
  lexeme = λ some. inr (second.lexeme some);
  longest = λ m inside lexeme. elim lexeme [ inl p ↦ omega (arith, first.longest m inside p) | inr q ↦ second.longest m inside q ];
}

-- no run begins with a byte of another class
no_run : (p : ℕ → Bool) (text : List ℕ) → p (get_or text 0 0) ≡ false → prefix_len p text ≡ 0
no_run p [] other = refl
no_run p (b ∷ text) other = rw other refl

-- digits are one or more
pub no_digits : AreDecimalDigits [] → ⊥
no_digits digits = absurd (omega (arith, digits.some))

-- `+` and `-` are no digits
sign_is_no_digit : (b : ℕ) → is_plus_or_minus b ≡ true → is_ascii_digit b ≡ false
sign_is_no_digit b sign =
    elim (or_cases _ _ sign) [
      | inl plus ↦ rw (eqb-true b 43 plus) refl
      | inr minus ↦ rw (eqb-true b 45 minus) refl
    ]

-- a sign and the run of digits behind it
pub power_signed : (text : List ℕ) (n : ℕ) → 0 < length text → is_plus_or_minus (get_or text 0 0) ≡ true → 0 < n → n ≡ prefix_len is_ascii_digit (drop 1 text) → IsLongestPrefix IsPower text (1 + n)
power_signed text n there sign some run =
    let digits = subst (IsLongestPrefix AreDecimalDigits (drop 1 text)) (sym run) (digits_prefix is_ascii_digit (drop 1 text)) in
    or_prefix _ _ text _ (1 + n) (digits_prefix is_ascii_digit text) (after_prefix is_plus_or_minus AreDecimalDigits text n there sign some digits)
    (omega (arith, no_run is_ascii_digit text (sign_is_no_digit (get_or text 0 0) sign)))

-- digits without a sign
pub power_plain : (text : List ℕ) → is_plus_or_minus (get_or text 0 0) ≡ false → IsLongestPrefix IsPower text (prefix_len is_ascii_digit text)
power_plain text plain =
    either_prefix _ _ text _ 0 (digits_prefix is_ascii_digit text) (after_other is_plus_or_minus AreDecimalDigits text plain) (omega arith)

-- `0x` and the run of hexadecimal digits behind it
pub hexadecimal_prefix : (text : List ℕ) (n : ℕ) → 2 ≤ length text → get_or text 0 0 ≡ 48 → is_hexadecimal_mark (get_or text 1 0) ≡ true → 0 < n → n ≡ prefix_len is_ascii_hexdigit (drop 2 text) → IsLongestPrefix IsHexadecimal text (2 + n)
hexadecimal_prefix text n there nought mark some run =
    let behind : drop 1 (drop 1 text) ≡ drop 2 text = drop-drop 1 1 text in
    let digits = subst (λ s. IsLongestPrefix (AreDigits is_ascii_hexdigit) s n) (sym behind) (subst (IsLongestPrefix (AreDigits is_ascii_hexdigit) (drop 2 text)) (sym run) (digits_prefix is_ascii_hexdigit (drop 2 text))) in
    let marked = after_prefix is_hexadecimal_mark (AreDigits is_ascii_hexdigit) (drop 1 text) n (omega (arith, length-drop 1 text)) (ap is_hexadecimal_mark (get_or-drop 1 text 0 0) ∙ mark) some digits in
    let sum : 1 + (1 + n) ≡ 2 + n = omega arith in
    subst (IsLongestPrefix IsHexadecimal text) sum
    (after_prefix is_nought (IsAfter is_hexadecimal_mark (AreDigits is_ascii_hexdigit)) text (1 + n) (omega arith) (rw nought refl) (omega arith) marked)

-- a fraction begins with no digit
pub fraction_begins : (s : List ℕ) → IsFraction s → (0 < length s) × (is_ascii_digit (get_or s 0 0) ≡ false)
fraction_begins [] fraction = absurd fraction
fraction_begins (b ∷ digits) fraction = (omega arith, rw (eqb-true b 46 fraction.0) refl)

-- a point and digits are a fraction of two bytes or more
fraction_from_bare : (s : List ℕ) → IsBareFraction s → IsFraction s × (2 ≤ length s)
fraction_from_bare [] bare = absurd bare
fraction_from_bare (b ∷ digits) bare = ((bare.0, bare.1.each), omega (arith, bare.1.some))

-- a fraction of two bytes or more is a point and digits
bare_from_fraction : (s : List ℕ) → IsFraction s → 2 ≤ length s → IsBareFraction s
bare_from_fraction [] fraction long = fraction
bare_from_fraction (b ∷ digits) fraction long = (fraction.0, record { some = omega arith; each = fraction.1 })

-- without digits in front there is no number that begins with digits
whole_nothing : (text : List ℕ) → prefix_len is_ascii_digit text ≡ 0 → IsLongestPrefix (IsWithOption AreDecimalDigits IsFraction) text 0
whole_nothing text none =
    option_nothing AreDecimalDigits IsFraction is_ascii_digit (λ s digits. digits.each) fraction_begins text no_digits
    (subst (IsLongestPrefix AreDecimalDigits text) none (digits_prefix is_ascii_digit text))

-- at most a point is there
pub mantissa_nothing : (text : List ℕ) (f : ℕ) → prefix_len is_ascii_digit text ≡ 0 → IsLongestPrefix IsFraction text f → f < 2 → IsLongestPrefix IsMantissa text 0
mantissa_nothing text f none fraction short =
    let bare : IsLongestPrefix IsBareFraction text 0 = record {
      within = omega arith;
      lexeme = λ some. absurd (omega arith);
      longest = λ m inside lexeme.
          let parts = fraction_from_bare (take m text) lexeme in
          absurd (omega (arith, parts.1, fraction.longest m inside parts.0, length-take-le m text inside));
    } in
    either_prefix _ _ text 0 0 (whole_nothing text none) bare (omega arith)

-- a point and digits
pub mantissa_bare : (text : List ℕ) (f : ℕ) → prefix_len is_ascii_digit text ≡ 0 → IsLongestPrefix IsFraction text f → 2 ≤ f → IsLongestPrefix IsMantissa text f
mantissa_bare text f none fraction long =
    let bare : IsLongestPrefix IsBareFraction text f = record {
      within = fraction.within;
      lexeme = λ some. bare_from_fraction (take f text) (fraction.lexeme some) (omega (arith, length-take-le f text fraction.within));
      longest = λ m inside lexeme. fraction.longest m inside (fraction_from_bare (take m text) lexeme).0;
    } in
    or_prefix _ _ text 0 f (whole_nothing text none) bare (omega arith)

-- behind a digit no point is in front
bare_other : (text : List ℕ) (m : ℕ) → is_ascii_digit (get_or text 0 0) ≡ true → IsBareFraction (take m text) → ⊥
bare_other text zero digit bare = bare
bare_other [] (suc m) digit bare = bare
bare_other (b ∷ text) (suc m) digit bare = both_ways (is_ascii_digit b) (rw (eqb-true b 46 bare.0) refl) digit

-- digits, and a fraction where one is behind them
pub mantissa_whole : (text : List ℕ) (w f : ℕ) → w ≡ prefix_len is_ascii_digit text → 0 < w → IsLongestPrefix IsFraction (drop w text) f → IsLongestPrefix IsMantissa text (w + f)
mantissa_whole text w f run some fraction =
    let digits = subst (IsLongestPrefix AreDecimalDigits text) (sym run) (digits_prefix is_ascii_digit text) in
    let first : is_ascii_digit (get_or text 0 0) ≡ true = prefix_len_passes is_ascii_digit text 0 0 (omega arith) in
    let bare : IsLongestPrefix IsBareFraction text 0 = record {
      within = omega arith;
      lexeme = λ none. absurd (omega arith);
      longest = λ m inside lexeme. absurd (bare_other text m first lexeme);
    } in
    either_prefix _ _ text (w + f) 0 (option_prefix AreDecimalDigits IsFraction is_ascii_digit (λ s all. all.each) fraction_begins text w f some digits fraction) bare (omega arith)

-- what a mantissa is made of, and what a number begins with
unfoldable pub is_mantissa_byte : ℕ → Bool
is_mantissa_byte b = is_ascii_digit b || is_point b

-- digits are bytes of a mantissa
digits_in_mantissa : (s : List ℕ) → All (λ b. IsTrue (is_ascii_digit b)) s → All (λ b. IsTrue (is_mantissa_byte b)) s
unfolding is_mantissa_byte
digits_in_mantissa s each = All-weaker (λ b. IsTrue (is_ascii_digit b)) (λ b. IsTrue (is_mantissa_byte b)) (λ b digit. or_left _ _ digit) s each

-- so are those of a fraction
fraction_in_mantissa : (s : List ℕ) → IsFraction s → All (λ b. IsTrue (is_mantissa_byte b)) s
unfolding is_mantissa_byte
fraction_in_mantissa [] fraction = absurd fraction
fraction_in_mantissa (b ∷ digits) fraction = All-cons (λ b. IsTrue (is_mantissa_byte b)) b digits (or_right _ _ fraction.0) (digits_in_mantissa digits fraction.1)

-- so are all bytes of a mantissa
pub mantissa_bytes : (s : List ℕ) → IsMantissa s → All (λ b. IsTrue (is_mantissa_byte b)) s
mantissa_bytes s mantissa =
    let Each : List ℕ → Type 0 = All (λ b. IsTrue (is_mantissa_byte b)) in
    elim mantissa [
      | inl parts ↦
          let prefix = digits_in_mantissa parts.prefix parts.first.each in
          elim parts.second [
            | inl nothing ↦ subst Each (sym (parts.joined ∙ ap (λ r. parts.prefix ++ r) nothing)) (All-append (λ b. IsTrue (is_mantissa_byte b)) parts.prefix [] prefix (λ k d inside. absurd (omega arith)))
            | inr fraction ↦ subst Each (sym parts.joined) (All-append (λ b. IsTrue (is_mantissa_byte b)) parts.prefix parts.rest prefix (fraction_in_mantissa parts.rest fraction))
          ]
      | inr bare ↦ fraction_in_mantissa s (fraction_from_bare s bare).0
    ]

-- an exponent begins with no byte of a mantissa
pub exponent_begins : (s : List ℕ) → IsExponent s → (0 < length s) × (is_mantissa_byte (get_or s 0 0) ≡ false)
unfolding is_mantissa_byte
exponent_begins [] exponent = absurd exponent
exponent_begins (b ∷ power) exponent = (
  omega arith,
  elim (or_cases _ _ exponent.0) [
    | inl small ↦ rw (eqb-true b 101 small) refl
    | inr capital ↦ rw (eqb-true b 69 capital) refl
  ],
)

-- a mantissa is not empty
pub no_mantissa : IsMantissa [] → ⊥
no_mantissa mantissa =
    elim mantissa [
      | inl parts ↦ absurd (omega (arith, parts.first.some, ap length parts.joined, length-append parts.prefix parts.rest))
      | inr bare ↦ bare
    ]

-- no mantissa, no number
pub decimal_nothing : (text : List ℕ) → IsLongestPrefix IsMantissa text 0 → IsLongestPrefix IsDecimal text 0
decimal_nothing text none = option_nothing IsMantissa IsExponent is_mantissa_byte mantissa_bytes exponent_begins text no_mantissa none

-- a mantissa, and an exponent where one is behind it
pub decimal_prefix : (text : List ℕ) (n k : ℕ) → 0 < n → IsLongestPrefix IsMantissa text n → IsLongestPrefix IsExponent (drop n text) k → IsLongestPrefix IsDecimal text (n + k)
decimal_prefix text n k some mantissa exponent = option_prefix IsMantissa IsExponent is_mantissa_byte mantissa_bytes exponent_begins text n k some mantissa exponent

-- no number begins with a quote
pub quote_is_no_number : (b : ℕ) → b ≡ 34 → is_mantissa_byte b ≡ false
unfolding is_mantissa_byte
quote_is_no_number b quote = rw quote refl
