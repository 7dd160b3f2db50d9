-- The text that is written is the shortest.
use Rattle.std.proofs.Common.{◌≡◌, ◌≢◌, ℕ, zero, suc, ◌+◌, ◌-◌, ◌*◌, ◌/◌, ◌%◌, ◌^◌, ◌<◌, ◌≤◌, ◌⊎◌, inl, inr, ◌↔◌, List, [], ◌∷◌, ◌++◌, length, Option, Some, None, sym, ap, ◌∙◌, subst, refl, ⊎_elim, arith, length-append, mul-one, add-zero, mul_comm, ℤ, pos, negsuc, ◌*ℤ◌, ◌<ℤ◌}
use Rattle.std.specs.Prelude.{unsigned_abs}
use Rattle.std.proofs.Math.Nat.{div-add-mod', mul-div-mul_right}
use Rattle.std.proofs.lemmas.Int.{ints, unsigned_abs-mul}
use Rattle.std.proofs.lemmas.Nat.{mod_below, div-mul-add}
use Rattle.std.proofs.lemmas.Bool.{cases_eq}
use Rattle.std.proofs.lemmas.List.{append-nil}
use Rattle.exact_scale.specs.Digits.{AllDigits, number, decimal_digits, last_digits}
use Rattle.exact_scale.specs.Fraction.{IsSame, decimal_fraction}
use Rattle.exact_scale.specs.Numeral.{Sign, NoSign, Plus, Minus, signed, sign_text, Numeral, fraction_digits, fraction_text, exponent_text, text_of, IsValid, IsTextOf, raised, lowered, value_of}
use Rattle.exact_scale.specs.ShortestText.{decimal_text, point_text, minus_of, IsPlain, IsShortestText}
use Rattle.exact_scale.proofs.DigitLaws.{number-append, number_below, number_decimal_digits, decimal_digits_are_digits, decimal_digits_some, length-decimal_digits, leading_zero, last_digits_are_digits, length-last_digits, number_last_digits}
use Rattle.exact_scale.proofs.LeastLaws.{least_places}
use Rattle.exact_scale.proofs.PowerLaws.{ten_pos, ten_times, cancel_ten, cut_zero}
use Rattle.exact_scale.proofs.SignLaws.{sign_of, signed-sign_of, minus_of-sign_of, signed_times, minus_of-times, abs_signed, IsSame-sym, IsSame-trans}
use Rattle.exact_scale.proofs.NumeralLaws.{written_so_once}
use Rattle.exact_scale.proofs.TextLaws.{point_written, last_kept, text_joined}

-- a size over a power of ten, cut down to where its last digit is not 0 or no place is left
pub record Cut (size k : ℕ) : Type 0 where
  pub short : ℕ
  pub places : ℕ
  pub shorter : places ≤ k
  pub same : size ≡ short * 10 ^ (k - places)
  pub last : (places ≡ 0) ⊎ (0 < short % 10)

pub cut : (k size : ℕ) → Cut size k
cut zero size = record { short = size; places = 0; shorter = omega arith; same = sym (mul-one size); last = inl refl }
cut (suc k) size = ⊎_elim
    (λ ends.
    let less = cut k (size / 10) in
    let more : k - less.places + 1 ≡ suc k - less.places = omega (arith, less.shorter) in
    record {
      short = less.short;
      places = less.places;
      shorter = omega (arith, less.shorter);
      last = less.last;
      same = sym (mul-one size) ∙ cut_zero size 0 ends ∙ ap (λ s. s * 10 ^ 1) less.same ∙ ten_times less.short (k - less.places) 1 ∙ ap (λ e. less.short * 10 ^ e) more;
    })
    (λ odd. record {
      short = size;
      places = suc k;
      shorter = omega arith;
      last = inr (omega (arith, odd));
      same = let none : 0 ≡ suc k - suc k = omega arith in sym (mul-one size) ∙ ap (λ e. size * 10 ^ e) none;
    })
    (cases_eq (size % 10) 0)

-- the digits after the point, where there are places
abbrev pub fraction_of : ℕ → ℕ → Option (List ℕ)
fraction_of zero rest = None
fraction_of (suc places) rest = Some (last_digits (suc places) rest)

fraction_of-digits : (places rest : ℕ) → fraction_digits (fraction_of places rest) ≡ last_digits places rest
fraction_of-digits zero rest = refl
fraction_of-digits (suc places) rest = refl

fraction_of-text : (places rest : ℕ) → rest < 10 ^ places → (places ≡ 0) ⊎ (0 < rest % 10) → fraction_text (fraction_of places rest) ≡ point_text places rest
fraction_of-text zero rest below last =
    let none : 0 ≡ rest = omega arith in ap (point_text 0) none
fraction_of-text (suc places) rest below last = point_written (suc places) rest (omega arith) last

-- the parts that are written
abbrev pub written : ℤ → ℕ → ℕ → Numeral
written n short places = record { sign = sign_of n; whole = decimal_digits (short / 10 ^ places); fraction = fraction_of places (short % 10 ^ places); exponent = None }

written_digits : (short places : ℕ) → number (decimal_digits (short / 10 ^ places) ++ fraction_digits (fraction_of places (short % 10 ^ places))) ≡ short
written_digits short places =
    let q = short / 10 ^ places in
    let r = short % 10 ^ places in
    ap (λ digits. number (decimal_digits q ++ digits)) (fraction_of-digits places r)
    ∙ number-append (decimal_digits q) (last_digits places r)
    ∙ ap (λ n. n * 10 ^ length (last_digits places r) + number (last_digits places r)) (number_decimal_digits q)
    ∙ ap (λ l. q * 10 ^ l + number (last_digits places r)) (length-last_digits places r)
    ∙ ap (λ n. q * 10 ^ places + n) (number_last_digits places r (mod_below short (10 ^ places) (ten_pos places)))
    ∙ div-add-mod' short (10 ^ places)

-- the value of parts without an exponent
plain_value : (s : Numeral) → s.exponent ≡ None → value_of s ≡ decimal_fraction (signed s.sign (number (s.whole ++ fraction_digits s.fraction))) (length (fraction_digits s.fraction))
plain_value s none =
    let digits = number (s.whole ++ fraction_digits s.fraction) in
    let places = length (fraction_digits s.fraction) in
    ap (λ e. record { numerator = signed s.sign (digits * 10 ^ raised e); denominator = 10 ^ (places + lowered e) }) none
    ∙ ap (λ n. record { numerator = signed s.sign n; denominator = 10 ^ (places + 0) }) (mul-one digits)
    ∙ ap (λ p. decimal_fraction (signed s.sign digits) p) (add-zero places)

written_value : (n : ℤ) (k short places : ℕ) → places ≤ k → unsigned_abs n ≡ short * 10 ^ (k - places) → IsSame (value_of (written n short places)) (decimal_fraction n k)
written_value n k short places shorter same =
    let s = written n short places in
    let digits = written_digits short places in
    let count : length (fraction_digits (fraction_of places (short % 10 ^ places))) ≡ places =
    ap length (fraction_of-digits places (short % 10 ^ places)) ∙ length-last_digits places (short % 10 ^ places) in
    let all : k - places + places ≡ k = omega arith in
    let value = plain_value s refl ∙ ap (λ d. decimal_fraction (signed (sign_of n) d) (length (fraction_digits s.fraction))) digits ∙ ap (decimal_fraction (signed (sign_of n) short)) count in
    subst (λ v. IsSame v (decimal_fraction n k)) (sym value) (record {
      cross =
          signed_times (sign_of n) short (10 ^ k)
          ∙ ap (signed (sign_of n)) (ap (λ e. short * 10 ^ e) (sym all) ∙ sym (ten_times short (k - places) places) ∙ ap (λ m. m * 10 ^ places) (sym same))
          ∙ sym (signed_times (sign_of n) (unsigned_abs n) (10 ^ places))
          ∙ ap (λ z. z *ℤ pos (10 ^ places)) (signed-sign_of n);
    })

-- ---- no plain text of the same fraction is shorter

-- the same value in sizes
same_sizes : (other : Numeral) (n : ℤ) (k : ℕ) → IsPlain other → IsSame (value_of other) (decimal_fraction n k)
    → number (other.whole ++ fraction_digits other.fraction) * 10 ^ k ≡ unsigned_abs n * 10 ^ length (fraction_digits other.fraction)
same_sizes other n k plain same =
    let digits = number (other.whole ++ fraction_digits other.fraction) in
    let places = length (fraction_digits other.fraction) in
    let s = subst (λ v. IsSame v (decimal_fraction n k)) (plain_value other plain.no_exponent) same in
    sym (abs_signed other.sign (digits * 10 ^ k)) ∙ ap unsigned_abs (sym (signed_times other.sign digits (10 ^ k))) ∙ ap unsigned_abs s.cross ∙ unsigned_abs-mul n (pos (10 ^ places))

cut_sizes : (digits count k size short places : ℕ) → places ≤ k → size ≡ short * 10 ^ (k - places) → digits * 10 ^ k ≡ size * 10 ^ count → digits * 10 ^ places ≡ short * 10 ^ count
cut_sizes digits count k size short places shorter same e =
    let all : places + (k - places) ≡ k = omega arith in
    let turned : k - places + count ≡ count + (k - places) = omega arith in
    cancel_ten (digits * 10 ^ places) (short * 10 ^ count) (k - places)
    (ten_times digits places (k - places) ∙ ap (λ p. digits * 10 ^ p) all ∙ e ∙ ap (λ s. s * 10 ^ count) same
    ∙ ten_times short (k - places) count ∙ ap (λ p. short * 10 ^ p) turned ∙ sym (ten_times short count (k - places)))

enough_places : (short places count digits : ℕ) → (places ≡ 0) ⊎ (0 < short % 10) → digits * 10 ^ places ≡ short * 10 ^ count → places ≤ count
enough_places short places count digits last e = ⊎_elim (λ none. omega arith)
    (λ odd. omega (arith, least_places short 0 places count digits odd (e ∙ ap (λ s. s * 10 ^ count) (sym (mul-one short))))) last

-- the whole part of the other text is the whole part
same_whole : (short places : ℕ) (whole after : List ℕ) → AllDigits after → number (whole ++ after) * 10 ^ places ≡ short * 10 ^ length after → number whole ≡ short / 10 ^ places
same_whole short places whole after all e =
    let count = length after in
    let digits = number (whole ++ after) in
    let turned : short * 10 ^ count ≡ digits * 10 ^ places = sym e in
    sym (div-mul-add (number whole) (10 ^ count) (number after) (number_below after all))
    ∙ ap (λ d. d / 10 ^ count) (sym (number-append whole after))
    ∙ sym (mul-div-mul_right digits (10 ^ count) (ten_pos places))
    ∙ ap (λ d. d / (10 ^ count * 10 ^ places)) e
    ∙ ap (λ d. short * 10 ^ count / d) (mul_comm (10 ^ count) (10 ^ places))
    ∙ mul-div-mul_right short (10 ^ places) (ten_pos count)

minus_short : (n : ℤ) → length (minus_of n) ≤ 1
minus_short (pos n) = omega arith
minus_short (negsuc n) = omega arith

minus_needed : (sign : Sign) (n : ℤ) (digits : ℕ) (k count : ℕ) → signed sign digits *ℤ pos (10 ^ k) ≡ n *ℤ pos (10 ^ count) → length (minus_of n) ≤ length (sign_text sign)
minus_needed NoSign n digits k count e = omega (arith, ap length (sym (minus_of-times n (10 ^ count) (ten_pos count)) ∙ ap minus_of (sym e)))
minus_needed Plus n digits k count e = omega (arith, ap length (sym (minus_of-times n (10 ^ count) (ten_pos count)) ∙ ap minus_of (sym e)))
minus_needed Minus n digits k count e = minus_short n

point_needed : (fraction : Option (List ℕ)) (places rest : ℕ) → places ≤ length (fraction_digits fraction) → length (fraction_text (fraction_of places rest)) ≤ length (fraction_text fraction)
point_needed fraction zero rest enough = omega arith
point_needed None (suc places) rest enough = absurd (omega arith)
point_needed (Some ds) (suc places) rest enough = omega (arith, length-last_digits (suc places) rest)

text_length : (s : Numeral) → length (text_of s) ≡ length (sign_text s.sign) + (length s.whole + (length (fraction_text s.fraction) + length (exponent_text s.exponent)))
text_length s =
    length-append (sign_text s.sign) _
    ∙ ap (λ l. length (sign_text s.sign) + l) (length-append s.whole _ ∙ ap (λ l. length s.whole + l) (length-append (fraction_text s.fraction) (exponent_text s.exponent)))

none_shorter : (n : ℤ) (k short places : ℕ) → places ≤ k → unsigned_abs n ≡ short * 10 ^ (k - places) → (places ≡ 0) ⊎ (0 < short % 10)
    → (other : Numeral) → IsValid other → IsPlain other → IsSame (value_of other) (decimal_fraction n k) → length (text_of (written n short places)) ≤ length (text_of other)
none_shorter n k short places shorter same last other valid plain denotes =
    let after = fraction_digits other.fraction in
    let sizes = cut_sizes (number (other.whole ++ after)) (length after) k (unsigned_abs n) short places shorter same (same_sizes other n k plain denotes) in
    let enough = enough_places short places (length after) (number (other.whole ++ after)) last sizes in
    let whole = same_whole short places other.whole after valid.fraction sizes in
    let room : short / 10 ^ places < 10 ^ length other.whole = subst (λ w. w < 10 ^ length other.whole) whole (number_below other.whole valid.whole) in
    let digits = length-decimal_digits (short / 10 ^ places) (length other.whole) room plain.whole_digit in
    let point = point_needed other.fraction places (short % 10 ^ places) enough in
    let s = subst (λ v. IsSame v (decimal_fraction n k)) (plain_value other plain.no_exponent) denotes in
    let minus = minus_needed other.sign n (number (other.whole ++ after)) k (length after) s.cross in
    omega (arith, text_length (written n short places), text_length other, ap length (minus_of-sign_of n))

-- ---- the property

sign_no_plus : (n : ℤ) → sign_of n ≢ Plus
sign_no_plus (pos n) e = cc
sign_no_plus (negsuc n) e = cc

sign_minus : (n : ℤ) → (sign_of n ≡ Minus) ↔ (n <ℤ pos 0)
sign_minus (pos n) = (λ e. cc, λ negative. absurd (omega (arith, ints, negative)))
sign_minus (negsuc n) = (λ e. record { lt = tt }, λ negative. refl)

no_trailing_zero : (places rest : ℕ) → (places ≡ 0) ⊎ (0 < rest % 10) → (digits : List ℕ) → fraction_of places rest ≡ Some digits
    → (prefix : List ℕ) × (last : ℕ) × (digits ≡ prefix ++ last ∷ []) × (last ≢ 48)
no_trailing_zero zero rest last digits e = cc
no_trailing_zero (suc places) rest last digits e =
    (last_digits places (rest / 10), 48 + rest % 10, cc, λ zero_last. ⊎_elim (λ none. omega arith) (λ odd. omega arith) last)

fraction_of-all : (places rest : ℕ) → AllDigits (fraction_digits (fraction_of places rest))
fraction_of-all zero rest = tt
fraction_of-all (suc places) rest = last_digits_are_digits (suc places) rest

written_valid : (n : ℤ) (short places : ℕ) → IsValid (written n short places)
written_valid n short places = record {
  whole = decimal_digits_are_digits (short / 10 ^ places);
  fraction = fraction_of-all places (short % 10 ^ places);
  some_digit = omega (arith, decimal_digits_some (short / 10 ^ places));
  exponent = tt;
}

written_text : (n : ℤ) (short places : ℕ) → (places ≡ 0) ⊎ (0 < short % 10) → text_of (written n short places) ≡ minus_of n ++ (decimal_digits (short / 10 ^ places) ++ point_text places (short % 10 ^ places))
written_text n short places last =
    let rest = short % 10 ^ places in
    let after = append-nil (fraction_text (fraction_of places rest)) ∙ fraction_of-text places rest (mod_below short (10 ^ places) (ten_pos places)) (last_kept short places rest refl last) in
    ap (λ s. s ++ (decimal_digits (short / 10 ^ places) ++ (fraction_text (fraction_of places rest) ++ []))) (minus_of-sign_of n)
    ∙ ap (λ t. minus_of n ++ (decimal_digits (short / 10 ^ places) ++ t)) after

-- the text of a fraction is the shortest that denotes it
pub shortest_text : (n : ℤ) (k : ℕ) → IsShortestText (decimal_text n k) n k
shortest_text n k =
    let c = cut k (unsigned_abs n) in
    let s = written n c.short c.places in
    let text = text_joined n k c.short c.places (c.short / 10 ^ c.places) (c.short % 10 ^ c.places) c.shorter c.same refl refl ∙ sym (written_text n c.short c.places c.last) in
    record {
      numeral = s;
      written_so = record { valid = written_valid n c.short c.places; joined = text };
      plain = record { no_exponent = refl; whole_digit = decimal_digits_some (c.short / 10 ^ c.places) };
      denotes = written_value n k c.short c.places c.shorter c.same;
      no_plus = sign_no_plus n;
      minus = sign_minus n;
      no_leading_zero = leading_zero (c.short / 10 ^ c.places);
      no_trailing_zero = no_trailing_zero c.places (c.short % 10 ^ c.places) (last_kept c.short c.places (c.short % 10 ^ c.places) refl c.last);
      shortest = λ other valid plain denotes. subst (λ t. length t ≤ length (text_of other)) (sym text)
          (none_shorter n k c.short c.places c.shorter c.same c.last other valid plain denotes);
    }

-- one text is of one fraction
pub same_fraction : (n m : ℤ) (k j : ℕ) → decimal_text n k ≡ decimal_text m j → IsSame (decimal_fraction n k) (decimal_fraction m j)
same_fraction n m k j e =
    let a = shortest_text n k in
    let b = shortest_text m j in
    let one = written_so_once (decimal_text n k) a.numeral b.numeral a.written_so (subst (λ t. IsTextOf t b.numeral) (sym e) b.written_so) in
    IsSame-trans (decimal_fraction n k) (value_of a.numeral) (decimal_fraction m j) (ten_pos _)
    (IsSame-sym _ _ a.denotes) (subst (λ s. IsSame (value_of s) (decimal_fraction m j)) (sym one) b.denotes)
