-- So many digits denote a number below that power of ten.
use Rattle.std.proofs.Common.{◌≡◌, ℕ, ◌^◌, ◌<◌, ◌≤◌, true, ltb, List, [], ◌∷◌, length, arith}
use Rattle.std.specs.Char.{digit_value, is_ascii_digit}
use Rattle.std.specs.List.{list_all}
use Rattle.std.specs.Str.Parse.{digits_value, AllDigits}
use Rattle.std.proofs.lemmas.Bool.{and_parts, ltb-true}
use Rattle.std.proofs.lemmas.Int.Digits.{digits_value-lt}
use Rattle.std.proofs.Math.Nat.{pow-le-pow_right}
use Rattle.std.proofs.lemmas.Grind.{common_steps}
use Rattle.byte_forms.specs.declared.numerals.Radix.TheVariants as radixes
use Rattle.byte_forms.specs.Numerals.{is_numeral, number_of}

-- decimal digits count less than ten
digit_value-lt : (b : ℕ) → is_ascii_digit b ≡ true → digit_value b < 10
digit_value-lt b digit = grind (arith, common_steps)

AllDigits_from : (text : List ℕ) → list_all is_ascii_digit text ≡ true → AllDigits 10 text
AllDigits_from [] all = tt
AllDigits_from (b ∷ bs) all =
    let parts = and_parts (is_ascii_digit b) (list_all is_ascii_digit bs) all in
    (digit_value-lt b parts.0, AllDigits_from bs parts.1)

-- the parts of a numeral
numeral_digits : (text : List ℕ) → is_numeral radixes.Decimal text ≡ true → (0 < length text) × (list_all is_ascii_digit text ≡ true)
numeral_digits text numeral =
    let parts = and_parts (ltb 0 (length text)) (list_all is_ascii_digit text) numeral in
    (ltb-true 0 (length text) parts.0, parts.1)

-- k digits denote less than 10 ^ k
pub number_of-below : (text : List ℕ) (k : ℕ) → is_numeral radixes.Decimal text ≡ true → length text ≤ k → number_of radixes.Decimal text < 10 ^ k
number_of-below text k numeral short =
    let below : digits_value 10 text < 10 ^ length text = digits_value-lt 10 text (AllDigits_from text (numeral_digits text numeral).1) in
    let power : 10 ^ length text ≤ 10 ^ k = pow-le-pow_right (omega arith) short in
    omega (arith, below, power)
