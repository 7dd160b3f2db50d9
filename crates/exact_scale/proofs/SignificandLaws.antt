-- Digits read one by one: the number without its last zeros, and the zeros.
use Rattle.std.proofs.Common.{◌≡◌, ℕ, zero, suc, ◌+◌, ◌-◌, ◌*◌, ◌%◌, ◌^◌, ◌<◌, ◌≤◌, min, ◌⊎◌, inl, inr, List, [], ◌∷◌, ◌++◌, length, take, get_or, sym, ap, ◌∙◌, subst, refl, ⊎_elim, arith, mul-one, zero-mul, zero-add, mul_comm, mul-le-mul_right}
use Rattle.std.proofs.Math.Nat.{le-mul_of_pos_right}
use Rattle.std.proofs.lemmas.List.{take_more}
use Rattle.std.proofs.lemmas.Nat.{mod-mul-add}
use Rattle.std.proofs.lemmas.Bool.{cases_lt}
use Rattle.exact_scale.specs.Digits.{IsDigit, AllDigits, number}
use Rattle.exact_scale.specs.Parts.{IsSignificand, IsLeastSize, LeastSizeTooWide, Moves}
use Rattle.exact_scale.proofs.DigitLaws.{number-append}
use Rattle.exact_scale.proofs.LeastLaws.{least_places, same_places}
use Rattle.exact_scale.proofs.PowerLaws.{ten_pos, ten_le, ten_times}

-- the number of one more digit of a list
pub number_more : (digits : List ℕ) (i : ℕ) → i < length digits → number (take (i + 1) digits) ≡ number (take i digits) * 10 + (get_or digits i 0 - 48)
number_more digits i within =
    ap number (take_more digits i 0 within) ∙ number-append (take i digits) (get_or digits i 0 ∷ []) ∙ omega arith

pub digit_at : (digits : List ℕ) (i : ℕ) → AllDigits digits → i < length digits → IsDigit (get_or digits i 0)
digit_at [] i all within = absurd (omega arith)
digit_at (d ∷ digits) zero all within = all.0
digit_at (d ∷ digits) (suc i) all within = digit_at digits i all.1 (omega arith)

-- ---- one more digit

one_more : (n short zeros digit : ℕ) → n ≡ short * 10 ^ zeros → n * 10 + digit ≡ short * 10 ^ (zeros + 1) + digit
one_more n short zeros digit same = ap (λ m. m + digit) (ap (λ m. m * 10) same ∙ ten_times short zeros 1)

ends_in : (short zeros digit : ℕ) → digit < 10 → (short * 10 ^ (zeros + 1) + digit) % 10 ≡ digit
ends_in short zeros digit small =
    ap (λ m. (m + digit) % 10) (sym (ten_times short zeros 1)) ∙ mod-mul-add (short * 10 ^ zeros) 10 digit small

capped_times : (short unit digit : ℕ) → 0 < unit → min (min short (2 ^ 62) * unit + digit) (2 ^ 62) ≡ min (short * unit + digit) (2 ^ 62)
capped_times short unit digit positive = ⊎_elim
    (λ small. let kept : min short (2 ^ 62) ≡ short = omega arith in ap (λ s. min (s * unit + digit) (2 ^ 62)) kept)
    (λ large.
    let kept : min short (2 ^ 62) ≡ 2 ^ 62 = omega arith in
    let low = le-mul_of_pos_right (2 ^ 62) positive in
    let high = mul-le-mul_right unit large in
    ap (λ s. min (s * unit + digit) (2 ^ 62)) kept ∙ omega arith)
    (cases_lt short (2 ^ 62))

-- another digit than 0: the zeros are before it now
pub pushed_digit : (n size zeros digit result : ℕ) → 0 < digit → digit < 10 → result ≡ min (size * 10 ^ (zeros + 1) + digit) (2 ^ 62) → IsSignificand n size zeros → IsSignificand (n * 10 + digit) result 0
pushed_digit n size zeros digit result positive small e s = record {
  short = s.short * 10 ^ (zeros + 1) + digit;
  same = one_more n s.short zeros digit s.same ∙ sym (mul-one (s.short * 10 ^ (zeros + 1) + digit));
  last = inr (subst (λ d. 0 < d) (sym (ends_in s.short zeros digit small)) positive);
  kept = e ∙ ap (λ k. min (k * 10 ^ (zeros + 1) + digit) (2 ^ 62)) s.kept ∙ capped_times s.short (10 ^ (zeros + 1)) digit (ten_pos (zeros + 1));
}

nonzero : (n : ℕ) → 0 < n % 10 → 0 < n
nonzero zero odd = absurd (omega arith)
nonzero (suc n) odd = omega arith

large_min : (short unit digit : ℕ) → 10 ^ 19 ≤ unit → unit ≤ unit * short → 2 ^ 62 ≡ min (short * unit + digit) (2 ^ 62)
large_min short unit digit power product = omega (arith, mul_comm unit short)

-- the same behind many zeros
pub pushed_far : (n size zeros digit : ℕ) → 0 < digit → digit < 10 → 18 ≤ zeros → IsSignificand n size zeros → IsSignificand (n * 10 + digit) (2 ^ 62) 0
pushed_far n size zeros digit positive small far s = record {
  short = s.short * 10 ^ (zeros + 1) + digit;
  same = one_more n s.short zeros digit s.same ∙ sym (mul-one (s.short * 10 ^ (zeros + 1) + digit));
  last = inr (subst (λ d. 0 < d) (sym (ends_in s.short zeros digit small)) positive);
  kept =
      let some : 0 < s.short = ⊎_elim (λ none. absurd (omega (arith, none.1))) (λ odd. nonzero s.short odd) s.last in
      let power = ten_le 19 (zeros + 1) (omega arith) in
      let product = le-mul_of_pos_right (10 ^ (zeros + 1)) some in
      large_min s.short (10 ^ (zeros + 1)) digit power product;
}

-- a zero behind another number than 0
pub pushed_zero : (n size zeros : ℕ) → 0 < size → IsSignificand n size zeros → IsSignificand (n * 10 + 0) size (zeros + 1)
pushed_zero n size zeros some s = record {
  short = s.short;
  same = one_more n s.short zeros 0 s.same ∙ omega arith;
  last = inr (⊎_elim (λ none. absurd (omega (arith, none.0, s.kept))) (λ odd. odd) s.last);
  kept = s.kept;
}

-- ---- the number moved up and down

least_moved : (short rise fall : ℕ) → 0 < short % 10 → IsLeastSize (short * 10 ^ rise) (10 ^ fall) (short * 10 ^ (rise - fall)) (fall - rise)
least_moved short rise fall odd = record {
  same = same_places short rise fall;
  least = λ j m e. least_places short rise fall j m odd e;
}

least_zero : (short rise fall : ℕ) → short ≡ 0 → IsLeastSize (short * 10 ^ rise) (10 ^ fall) 0 0
least_zero short rise fall none =
    let above : short * 10 ^ rise ≡ 0 = ap (λ s. s * 10 ^ rise) none ∙ zero-mul (10 ^ rise) in
    record { same = zero-mul (10 ^ fall) ∙ sym (ap (λ a. a * 1) above); least = λ j m e. omega arith }

-- 0 is 0 whatever its exponent
pub zero_moves : (size up down short rise fall : ℕ) → size ≡ 0 → Moves size up down short rise fall → IsLeastSize (short * 10 ^ rise) (10 ^ fall) 0 0
zero_moves size up down short rise fall none m = least_zero short rise fall (omega (arith, m.kept))

odd_short : (size up down short rise fall : ℕ) → 0 < size → Moves size up down short rise fall → 0 < short % 10
odd_short size up down short rise fall some m = ⊎_elim (λ none. absurd (omega (arith, m.kept))) (λ odd. odd) m.last

-- within the limits the number is moved as it is
pub moves_within : (size up down short rise fall moved : ℕ) → 0 < size → up ≤ 18 → down ≤ 30 → moved ≡ size * 10 ^ up → moved < 2 ^ 62
    → Moves size up down short rise fall → IsLeastSize (short * 10 ^ rise) (10 ^ fall) moved down
moves_within size up down short rise fall moved some few places e narrow m =
    let ups : rise - fall ≡ up = omega (arith, m.upward) in
    let downs : fall - rise ≡ down = omega (arith, m.downward) in
    let low = le-mul_of_pos_right size (ten_pos up) in
    let whole : short ≡ size = omega (arith, m.kept, mul_comm size (10 ^ up)) in
    subst (λ d. IsLeastSize (short * 10 ^ rise) (10 ^ fall) moved d) downs
    (subst (λ x. IsLeastSize (short * 10 ^ rise) (10 ^ fall) x (fall - rise))
    (ap (λ s. s * 10 ^ (rise - fall)) whole ∙ ap (λ u. size * 10 ^ u) ups ∙ sym e)
    (least_moved short rise fall (odd_short size up down short rise fall some m)))

too_wide : (size up down short rise fall : ℕ) → 0 < size → Moves size up down short rise fall → (30 < fall - rise) ⊎ (2 ^ 62 ≤ short * 10 ^ (rise - fall)) → LeastSizeTooWide (short * 10 ^ rise) (10 ^ fall)
too_wide size up down short rise fall some m wide = record {
  size = short * 10 ^ (rise - fall);
  places = fall - rise;
  wide = wide;
  least = least_moved short rise fall (odd_short size up down short rise fall some m);
}

pub moves_low : (size up down short rise fall : ℕ) → 0 < size → 30 < down → Moves size up down short rise fall → LeastSizeTooWide (short * 10 ^ rise) (10 ^ fall)
moves_low size up down short rise fall some low m = too_wide size up down short rise fall some m (inl (omega (arith, m.downward)))

pub moves_high : (size up down short rise fall : ℕ) → 0 < size → 18 < up → Moves size up down short rise fall → LeastSizeTooWide (short * 10 ^ rise) (10 ^ fall)
moves_high size up down short rise fall some high m =
    let ups : 18 < rise - fall = omega (arith, m.upward) in
    let power = ten_le 19 (rise - fall) ups in
    let positive : 0 < short = omega (arith, m.kept) in
    let product = le-mul_of_pos_right (10 ^ (rise - fall)) positive in
    too_wide size up down short rise fall some m (inr (omega (arith, mul_comm (10 ^ (rise - fall)) short)))

pub moves_wide : (size up down short rise fall : ℕ) → 0 < size → up ≤ 18 → 2 ^ 62 ≤ size * 10 ^ up → Moves size up down short rise fall → LeastSizeTooWide (short * 10 ^ rise) (10 ^ fall)
moves_wide size up down short rise fall some few wide m =
    let ups : rise - fall ≡ up = omega (arith, m.upward) in
    let below : size ≤ short = omega (arith, m.kept) in
    let product = mul-le-mul_right (10 ^ up) below in
    too_wide size up down short rise fall some m (inr (subst (λ u. 2 ^ 62 ≤ short * 10 ^ u) (sym ups) (omega arith)))

-- one more digit of a list
pub extended_more : (n : ℕ) (digits : List ℕ) (i size zeros : ℕ) → i < length digits
    → IsSignificand ((n * 10 ^ i + number (take i digits)) * 10 + (get_or digits i 0 - 48)) size zeros
    → IsSignificand (n * 10 ^ (i + 1) + number (take (i + 1) digits)) size zeros
extended_more n digits i size zeros within s =
    let next = number_more digits i within in
    let power = ten_times n i 1 in
    let e : (n * 10 ^ i + number (take i digits)) * 10 + (get_or digits i 0 - 48) ≡ n * 10 ^ (i + 1) + number (take (i + 1) digits) = omega arith in
    subst (λ m. IsSignificand m size zeros) e s

pub none_yet : IsSignificand 0 0 0
none_yet = record { short = 0; same = refl; last = inl (refl, refl); kept = refl }

-- the digits of two lists
pub both_read : (whole fraction : List ℕ) (size zeros : ℕ)
    → IsSignificand ((0 * 10 ^ length whole + number whole) * 10 ^ length fraction + number fraction) size zeros → IsSignificand (number (whole ++ fraction)) size zeros
both_read whole fraction size zeros s =
    let e : (0 * 10 ^ length whole + number whole) * 10 ^ length fraction + number fraction ≡ number (whole ++ fraction) =
    ap (λ w. w * 10 ^ length fraction + number fraction) (ap (λ z. z + number whole) (zero-mul (10 ^ length whole)) ∙ zero-add (number whole)) ∙ sym (number-append whole fraction) in
    subst (λ m. IsSignificand m size zeros) e s
