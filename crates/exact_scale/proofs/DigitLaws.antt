-- What decimal digits denote, and how many there are.
use Rattle.std.proofs.Common.{◌≡◌, ℕ, zero, suc, ◌+◌, ◌-◌, ◌*◌, ◌/◌, ◌%◌, ◌^◌, ◌<◌, ◌≤◌, List, [], ◌∷◌, ◌++◌, length, cond, map, replicate, get_or, sym, ap, ◌∙◌, subst, refl, ⊎_elim, arith, append_assoc, length-append, mul-le-mul_right, pow-suc, zero-mul, zero-add, add-zero, mod-eq_of_lt, add-one}
use Rattle.std.specs.Int.Digits.{digits_of}
use Rattle.std.specs.Fmt.{decimal}
use Rattle.std.proofs.Math.Nat.{div-add-mod', div-eq_of_lt, pow-zero}
use Rattle.std.proofs.lemmas.Nat.{pow-add, le-div, mod_below}
use Rattle.std.proofs.lemmas.Int.Digits.{digits_of_step, length-digits_of-le, first_digits_of}
use Rattle.std.proofs.lemmas.Bool.{cases_lt}
use Rattle.std.proofs.lemmas.List.{map-append, append-nil, length-map}
use Rattle.std.proofs.lemmas.Fmt.{decimal_by_steps_wide}
use Rattle.std.proofs.lemmas.Grind.{replicate_next}
use borrow.Author.Tests.{ne_eqb}
use Rattle.exact_scale.specs.Digits.{IsDigit, AllDigits, number, decimal_digits, last_digits}
use Rattle.exact_scale.proofs.PowerLaws.{ten_pos, ten_le}

-- digits joined denote the first number, moved up, and the second
pub number-append : (prefix back : List ℕ) → number (prefix ++ back) ≡ number prefix * 10 ^ length back + number back
number-append [] back = sym (ap (λ n. n + number back) (zero-mul (10 ^ length back)) ∙ zero-add (number back))
number-append (digit ∷ prefix) back =
    let d = digit - 48 in
    let more = number-append prefix back in
    let power : 10 ^ length (prefix ++ back) ≡ 10 ^ length prefix * 10 ^ length back = ap (λ n. 10 ^ n) (length-append prefix back) ∙ pow-add 10 (length prefix) (length back) in
    ap (λ p. d * p + number (prefix ++ back)) power ∙ ap (λ n. d * (10 ^ length prefix * 10 ^ length back) + n) more ∙ omega arith

pub number_push : (digits : List ℕ) (d : ℕ) → number (digits ++ (48 + d) ∷ []) ≡ number digits * 10 + d
number_push digits d = number-append digits ((48 + d) ∷ []) ∙ omega arith

pub AllDigits-append : (prefix back : List ℕ) → AllDigits prefix → AllDigits back → AllDigits (prefix ++ back)
AllDigits-append [] back p q = q
AllDigits-append (digit ∷ prefix) back p q = (p.0, AllDigits-append prefix back p.1 q)

digit_value : (digit : ℕ) → IsDigit digit → digit - 48 + 1 ≤ 10
digit_value digit h = omega (arith, h.0, h.1)

-- digits denote less than a one with as many zeros
pub number_below : (digits : List ℕ) → AllDigits digits → number digits < 10 ^ length digits
number_below [] all = omega (arith, pow-zero 10)
number_below (digit ∷ digits) all =
    let rest = number_below digits all.1 in
    let top = mul-le-mul_right (10 ^ length digits) (digit_value digit all.0) in
    omega (arith, pow-suc 10 (length digits))

-- ---- the digits of a number

from_digits_of : (n : ℕ) → 0 < n → decimal_digits n ≡ map (λ digit. 48 + digit) (digits_of 10 n)
from_digits_of n positive = ap (λ b. cond b (48 ∷ []) (map (λ digit. 48 + digit) (digits_of 10 n))) (ne_eqb n 0 (λ e. omega arith))

digits_step : (n : ℕ) → 0 < n → decimal_digits n ≡ map (λ digit. 48 + digit) (digits_of 10 (n / 10)) ++ (48 + n % 10) ∷ []
digits_step n positive =
    from_digits_of n positive ∙ ap (map (λ digit. 48 + digit)) (digits_of_step 10 n (omega arith) positive)
    ∙ map-append (λ digit. 48 + digit) (digits_of 10 (n / 10)) (n % 10 ∷ [])

pub decimal_digits_small : (n : ℕ) → n < 10 → decimal_digits n ≡ (48 + n) ∷ []
decimal_digits_small zero small = refl
decimal_digits_small (suc m) small =
    digits_step (suc m) (omega arith)
    ∙ ap (λ q. map (λ digit. 48 + digit) (digits_of 10 q) ++ (48 + suc m % 10) ∷ []) (div-eq_of_lt small)
    ∙ ap (λ d. (48 + d) ∷ []) (mod-eq_of_lt small)

pub decimal_digits_step : (n : ℕ) → 10 ≤ n → decimal_digits n ≡ decimal_digits (n / 10) ++ (48 + n % 10) ∷ []
decimal_digits_step n large =
    digits_step n (omega arith)
    ∙ ap (λ digits. digits ++ (48 + n % 10) ∷ []) (sym (from_digits_of (n / 10) (omega arith)))

-- std's `decimal` has the same digits
pub decimal_same : (n : ℕ) → n < 10 ^ 64 → decimal n ≡ decimal_digits n
decimal_same =
    decimal_by_steps_wide (λ m digits. digits ≡ decimal_digits m) (λ m small. sym (decimal_digits_small m small))
    (λ m digits large prefix. ap (λ ds. ds ++ (48 + m % 10) ∷ []) prefix ∙ sym (decimal_digits_step m large))

low_prefix : (places n : ℕ) → 10 ^ suc places ≤ n → 10 ^ places ≤ n / 10
low_prefix places n low = le-div (10 ^ places) n 10 (omega arith) (omega (arith, pow-suc 10 places))

-- ---- the last digits of a number

pub length-last_digits : (places n : ℕ) → length (last_digits places n) ≡ places
length-last_digits zero n = refl
length-last_digits (suc places) n =
    length-append (last_digits places (n / 10)) ((48 + n % 10) ∷ []) ∙ ap (λ l. l + 1) (length-last_digits places (n / 10)) ∙ omega arith

pub last_digits_are_digits : (places n : ℕ) → AllDigits (last_digits places n)
last_digits_are_digits zero n = tt
last_digits_are_digits (suc places) n = AllDigits-append _ _ (last_digits_are_digits places (n / 10)) ((omega arith, omega (arith, mod_below n 10 (omega arith))), tt)

prefix_below : (places n : ℕ) → n < 10 ^ suc places → n / 10 < 10 ^ places
prefix_below places n below = ⊎_elim (λ small. small)
    (λ big. absurd (omega (arith, mul-le-mul_right 10 big, div-add-mod' n 10, pow-suc 10 places)))
    (cases_lt (n / 10) (10 ^ places))

pub number_last_digits : (places n : ℕ) → n < 10 ^ places → number (last_digits places n) ≡ n
number_last_digits zero n below = omega (arith, pow-zero 10)
number_last_digits (suc places) n below =
    number_push (last_digits places (n / 10)) (n % 10)
    ∙ ap (λ prefix. prefix * 10 + n % 10) (number_last_digits places (n / 10) (prefix_below places n below))
    ∙ div-add-mod' n 10

last_digits_of_zero : (count : ℕ) → last_digits count 0 ≡ replicate count 48
last_digits_of_zero zero = refl
last_digits_of_zero (suc count) =
    ap (λ prefix. prefix ++ 48 ∷ []) (last_digits_of_zero count) ∙ sym (replicate_next count 48) ∙ ap (λ n. replicate n 48) (add-one count)

-- zeros in front of a number that has fewer digits
pub last_digits_padded : (count places n : ℕ) → n < 10 ^ places → last_digits (count + places) n ≡ replicate count 48 ++ last_digits places n
last_digits_padded count zero n below =
    let none : n ≡ 0 = omega (arith, pow-zero 10) in
    ap (last_digits (count + 0)) none ∙ ap (λ k. last_digits k 0) (add-zero count) ∙ last_digits_of_zero count ∙ sym (append-nil (replicate count 48))
last_digits_padded count (suc places) n below =
    let counted : count + suc places ≡ suc (count + places) = omega arith in
    ap (λ k. last_digits k n) counted
    ∙ ap (λ prefix. prefix ++ (48 + n % 10) ∷ []) (last_digits_padded count places (n / 10) (prefix_below places n below))
    ∙ append_assoc (replicate count 48) (last_digits places (n / 10)) ((48 + n % 10) ∷ [])

-- all of a number's digits
pub decimal_digits_are_last : (places n : ℕ) → 10 ^ places ≤ n → n < 10 ^ suc places → decimal_digits n ≡ last_digits (suc places) n
decimal_digits_are_last zero n low high = decimal_digits_small n high ∙ ap (λ d. (48 + d) ∷ []) (sym (mod-eq_of_lt high))
decimal_digits_are_last (suc places) n low high =
    let large : 10 ≤ n = omega (arith, pow-suc 10 places, ten_pos places) in
    decimal_digits_step n large
    ∙ ap (λ digits. digits ++ (48 + n % 10) ∷ []) (decimal_digits_are_last places (n / 10) (low_prefix places n low) (prefix_below (suc places) n high))

pub digits_room : (places e n : ℕ) → 10 ^ e ≤ n → n < 10 ^ places → e + 1 ≤ places
digits_room places e n low below = ⊎_elim (λ l. omega (arith, l)) (λ few. absurd (omega (arith, ten_le places e few))) (cases_lt e places)

-- zeros in front of all of a number's digits
pub padded_number : (places e n : ℕ) → 10 ^ e ≤ n → n < 10 * 10 ^ e → n < 10 ^ places → replicate (places - (e + 1)) 48 ++ decimal_digits n ≡ last_digits places n
padded_number places e n low high below =
    let room = digits_room places e n low below in
    let next : n < 10 ^ suc e = omega (arith, pow-suc 10 e) in
    let joined : places - (e + 1) + suc e ≡ places = omega arith in
    ap (λ digits. replicate (places - (e + 1)) 48 ++ digits) (decimal_digits_are_last e n low next)
    ∙ sym (last_digits_padded (places - (e + 1)) (suc e) n next)
    ∙ ap (λ p. last_digits p n) joined

-- one more zero
pub zero_more : (old items more : List ℕ) (z first : ℕ) → first ≤ z → items ≡ old ++ replicate (z - first) 48 → more ≡ items ++ 48 ∷ [] → more ≡ old ++ replicate (z + 1 - first) 48
zero_more old items more z first within so_far pushed =
    let next : z - first + 1 ≡ z + 1 - first = omega arith in
    pushed ∙ ap (λ l. l ++ 48 ∷ []) so_far ∙ append_assoc old (replicate (z - first) 48) (48 ∷ [])
    ∙ ap (λ l. old ++ l) (sym (replicate_next (z - first) 48)) ∙ ap (λ n. old ++ replicate n 48) next

-- ---- how many digits, and the first one

pub length-decimal_digits : (n count : ℕ) → n < 10 ^ count → 0 < count → length (decimal_digits n) ≤ count
length-decimal_digits zero count below some = omega arith
length-decimal_digits (suc n) count below some =
    let all = ap length (from_digits_of (suc n) (omega arith)) ∙ length-map (digits_of 10 (suc n)) (λ digit. 48 + digit) in
    omega (arith, length-digits_of-le 10 count (suc n) (omega arith) below)

pub decimal_digits_some : (n : ℕ) → 0 < length (decimal_digits n)
decimal_digits_some n = ⊎_elim
    (λ small. omega (arith, ap length (decimal_digits_small n small)))
    (λ large. omega (arith, ap length (decimal_digits_step n large), length-append (decimal_digits (n / 10)) ((48 + n % 10) ∷ [])))
    (cases_lt n 10)

first_not_zero : (ds : List ℕ) → 0 < get_or ds 0 0 → get_or (map (λ digit. 48 + digit) ds) 0 0 ≡ 48 → ⊥
first_not_zero [] some e = omega arith
first_not_zero (d ∷ ds) some e = omega arith

-- a leading zero is alone
pub leading_zero : (n : ℕ) → get_or (decimal_digits n) 0 0 ≡ 48 → length (decimal_digits n) ≡ 1
leading_zero zero e = refl
leading_zero (suc n) e = absurd (first_not_zero (digits_of 10 (suc n)) (first_digits_of 10 (suc n) (omega arith) (omega arith))
    (sym (ap (λ ds. get_or ds 0 0) (from_digits_of (suc n) (omega arith))) ∙ e))

decimal_digits_shown : (places n : ℕ) → n < 10 ^ places → AllDigits (decimal_digits n) × (number (decimal_digits n) ≡ n)
decimal_digits_shown zero n below =
    let small = decimal_digits_small n (omega (arith, pow-zero 10)) in
    let none : n ≡ 0 = omega (arith, pow-zero 10) in
    (subst AllDigits (sym small) ((omega arith, omega arith), tt), ap number small ∙ omega arith)
decimal_digits_shown (suc places) n below = ⊎_elim
    (λ small. let e = decimal_digits_small n small in (subst AllDigits (sym e) ((omega arith, omega arith), tt), ap number e ∙ omega (arith, pow-zero 10)))
    (λ large.
    let e = decimal_digits_step n large in
    let prefix = decimal_digits_shown places (n / 10) (prefix_below places n below) in (
      subst AllDigits (sym e) (AllDigits-append _ _ prefix.0 ((omega arith, omega (arith, mod_below n 10 (omega arith))), tt)),
      ap number e ∙ number_push (decimal_digits (n / 10)) (n % 10) ∙ ap (λ f. f * 10 + n % 10) prefix.1 ∙ div-add-mod' n 10,
    ))
    (cases_lt n 10)

below_ten : (n : ℕ) → n < 10 ^ n
below_ten zero = omega (arith, pow-zero 10)
below_ten (suc n) = omega (arith, below_ten n, pow-suc 10 n)

pub decimal_digits_are_digits : (n : ℕ) → AllDigits (decimal_digits n)
decimal_digits_are_digits n = (decimal_digits_shown n n (below_ten n)).0

pub number_decimal_digits : (n : ℕ) → number (decimal_digits n) ≡ n
number_decimal_digits n = (decimal_digits_shown n n (below_ten n)).1
