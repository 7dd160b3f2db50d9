-- A number's last digits are a numeral of it, where it has no more than these.
use Rattle.std.proofs.Common.{◌≡◌, ◌∙◌, ℕ, zero, suc, ◌+◌, ◌*◌, ◌/◌, ◌%◌, ◌^◌, ◌<◌, Bool, true, ◌&&◌, List, [], ◌∷◌, ◌++◌, length, refl, ap, arith, ⊎_elim, length-append, mul-le-mul_right, pow-suc}
use Rattle.std.specs.Prelude.{◌==◌}
use Rattle.std.specs.List.{list_all}
use Rattle.std.specs.Char.{digit_value, is_ascii_digit, is_ascii_hexdigit}
use Rattle.std.proofs.Math.Nat.{div-add-mod', pow-zero}
use Rattle.std.proofs.lemmas.Nat.{mod_below}
use Rattle.std.proofs.lemmas.Bool.{agree_below, agree_below_at, and_from, and_parts, cases_lt, eqb-true, lt-ltb}
use Rattle.std.proofs.lemmas.Int.Digits.{digits_value_push}
use Rattle.std.proofs.lemmas.List.Folds.{list_all-append}
use Rattle.byte_forms.specs.declared.numerals.Radix.{Radix}
use Rattle.byte_forms.specs.declared.numerals.Radix.TheVariants as radixes
use Rattle.byte_forms.specs.Classes.{is_in}
use Rattle.byte_forms.specs.Numerals.{base_of, digit_class, number_of, is_numeral}
use Rattle.byte_forms.specs.Hexadecimal.{hex_digit, hex_digits}
use Rattle.exact_scale.specs.Digits.{last_digits}
use Rattle.mill_log.specs.GeneratedLog.{padded}

-- a text of so many digits of a number
pub record Writes (radix : Radix) (places n : ℕ) (text : List ℕ) : Type 0 where
  pub digits : list_all (is_in (digit_class radix)) text ≡ true
  pub count : length text ≡ places
  pub value : number_of radix text ≡ n

pub numeral_of : (radix : Radix) (places n : ℕ) (text : List ℕ) → 0 < places → Writes radix places n text → is_numeral radix text ≡ true
numeral_of radix places n text some w =
    let count = w.count in
    and_from _ _ (lt-ltb 0 (length text) (omega (arith, count))) w.digits

-- one digit more
writes_more : (radix : Radix) (places n c : ℕ) (text : List ℕ) → is_in (digit_class radix) c ≡ true →
    digit_value c ≡ n % base_of radix → Writes radix places (n / base_of radix) text → Writes radix (suc places) n (text ++ c ∷ [])
writes_more radix places n c text digit value prefix = record {
  digits = list_all-append (is_in (digit_class radix)) text (c ∷ []) ∙ and_from _ _ prefix.digits (and_from _ _ digit refl);
  count = length-append text (c ∷ []) ∙ ap (λ l. l + 1) prefix.count ∙ omega arith;
  value = digits_value_push (base_of radix) text c ∙ ap (λ v. v * base_of radix + digit_value c) prefix.value
      ∙ ap (λ d. n / base_of radix * base_of radix + d) value ∙ div-add-mod' n (base_of radix);
}

prefix_below : (base places n : ℕ) → n < base ^ suc places → n / base < base ^ places
prefix_below base places n below = ⊎_elim (λ small. small)
    (λ big. absurd (omega (arith, mul-le-mul_right base big, div-add-mod' n base, pow-suc base places)))
    (cases_lt (n / base) (base ^ places))

-- each digit is one, and has its value
abbrev is_digit_of : (ℕ → Bool) → (ℕ → ℕ) → ℕ → Bool
is_digit_of class digit d = class (digit d) && (digit_value (digit d) == d)

digit_is : (class : ℕ → Bool) (digit : ℕ → ℕ) (base d : ℕ) →
    agree_below (is_digit_of class digit) (λ e. true) base ≡ true → d < base → (class (digit d) ≡ true) × (digit_value (digit d) ≡ d)
digit_is class digit base d all below =
    let passes = agree_below_at (is_digit_of class digit) (λ e. true) base d all below in
    let both = and_parts (class (digit d)) (digit_value (digit d) == d) passes in
    (both.0, eqb-true (digit_value (digit d)) d both.1)

pub hexadecimal_digit : (d : ℕ) → d < 16 → (is_ascii_hexdigit (hex_digit d) ≡ true) × (digit_value (hex_digit d) ≡ d)
hexadecimal_digit d below = digit_is is_ascii_hexdigit hex_digit 16 d refl below

decimal_written : (places n : ℕ) → n < 10 ^ places → Writes radixes.Decimal places n (last_digits places n)
decimal_written zero n below = record { digits = refl; count = refl; value = omega (arith, pow-zero 10) }
decimal_written (suc places) n below =
    let digit = digit_is is_ascii_digit (λ d. 48 + d) 10 (n % 10) refl (mod_below n 10 (omega arith)) in
    writes_more radixes.Decimal places n (48 + n % 10) (last_digits places (n / 10)) digit.0 digit.1
    (decimal_written places (n / 10) (prefix_below 10 places n below))

pub padded_written : (places n : ℕ) → n < 10 ^ places → Writes radixes.Decimal places n (padded places n)
unfolding padded
padded_written places n below = decimal_written places n below

pub hexadecimal_written : (places n : ℕ) → n < 16 ^ places → Writes radixes.Hexadecimal places n (hex_digits places n)
unfolding hex_digits
hexadecimal_written zero n below = record { digits = refl; count = refl; value = omega (arith, pow-zero 16) }
hexadecimal_written (suc places) n below =
    let digit = hexadecimal_digit (n % 16) (mod_below n 16 (omega arith)) in
    writes_more radixes.Hexadecimal places n (hex_digit (n % 16)) (hex_digits places (n / 16)) digit.0 digit.1
    (hexadecimal_written places (n / 16) (prefix_below 16 places n below))
