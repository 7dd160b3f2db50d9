-- Numbers by their digits: a prefix of the digits denotes no greater number.
use Rattle.std.proofs.Common.{◌≡◌, ℕ, ◌+◌, ◌*◌, ◌<◌, ◌≤◌, true, false, cond, leb, ltb, List, [], ◌∷◌, ◌++◌, length, get_or, take, drop, map, Some, None, refl, sym, ap, ◌∙◌, arith, inl, inr, ◌↔◌}
use Rattle.std.specs.Char.{digit_value, is_ascii_hexdigit}
use Rattle.std.specs.Int.Digits.{number_from_digits, number_from_digits_after}
use Rattle.std.proofs.lemmas.Int.Digits.{digits_value_is, digits_value_more, number_after_append, number_after_ge}
use Rattle.std.proofs.lemmas.List.{map-append, take-append-drop, take_all}
use Rattle.byte_forms.specs.declared.numerals.Radix.{Radix}
use Rattle.byte_forms.specs.declared.numerals.Radix.TheVariants as radixes
use Rattle.byte_forms.specs.Classes.{is_in}
use Rattle.byte_forms.specs.Numerals.{base_of, digit_class, number_of, is_numeral, number_up_to}
use Rattle.byte_forms.proofs.RunLaws.{list_all-fails, list_all_from}
use Rattle.std.specs.List.{list_all}
use Rattle.std.proofs.lemmas.Bool.{cases_Bool, leb-true, leb-false, lt-leb, le-leb, lt-ltb, and_parts}
use Rattle.std.proofs.lemmas.Option.{cond_some}
use Rattle.std.specs.Prelude.{◌&&◌}

-- a digit of either radix is a hexadecimal digit
pub is_ascii_hexdigit_from_class : (radix : Radix) (b : ℕ) → is_in (digit_class radix) b ≡ true → is_ascii_hexdigit b ≡ true
is_ascii_hexdigit_from_class radixes.Decimal b digit = rw digit refl
is_ascii_hexdigit_from_class radixes.Hexadecimal b digit = digit

base-pos : (radix : Radix) → 0 < base_of radix
base-pos radixes.Decimal = omega arith
base-pos radixes.Hexadecimal = omega arith

pub number_of-take : (radix : Radix) (digits : List ℕ) (n : ℕ) → number_of radix (take n digits) ≤ number_of radix digits
number_of-take radix digits n =
    let base : ℕ = base_of radix in
    let values : map digit_value (take n digits) ++ map digit_value (drop n digits) ≡ map digit_value digits =
    sym (map-append digit_value (take n digits) (drop n digits)) ∙ ap (map digit_value) (take-append-drop n digits) in
    let whole : number_of radix digits ≡ number_from_digits_after base (number_from_digits base (map digit_value (take n digits))) (map digit_value (drop n digits)) =
    digits_value_is base digits ∙ ap (number_from_digits base) (sym values) ∙ number_after_append base 0 (map digit_value (take n digits)) (map digit_value (drop n digits)) in
    let prefix : number_of radix (take n digits) ≡ number_from_digits base (map digit_value (take n digits)) = digits_value_is base (take n digits) in
    let grows : number_from_digits base (map digit_value (take n digits)) ≤ number_from_digits_after base (number_from_digits base (map digit_value (take n digits))) (map digit_value (drop n digits)) =
    number_after_ge base (number_from_digits base (map digit_value (take n digits))) (map digit_value (drop n digits)) (base-pos radix) in
    omega (arith, whole, prefix, grows)

-- what a test chose
limited : (x limit : ℕ) (value : ℕ) → Some value ≡ cond (leb x limit) (Some x) None → (x ≤ limit) × (value ≡ x)
limited x limit value e =
    elim (cases_Bool (leb x limit)) [
      | inl holds ↦ let same : value ≡ x = cc (rw holds at e) in (leb-true x limit holds, same)
      | inr fails ↦ absurd (cc (rw fails at e))
    ]

above : (x limit : ℕ) → None ≡ cond (leb x limit) (Some x) None → limit < x
above x limit e =
    elim (cases_Bool (leb x limit)) [
      | inl holds ↦ absurd (cc (rw holds at e))
      | inr fails ↦ leb-false x limit fails
    ]

-- one digit more
number_of-more : (radix : Radix) (text : List ℕ) (i : ℕ) → i < length text → number_of radix (take (i + 1) text) ≡ number_of radix (take i text) * base_of radix + digit_value (get_or text i 0)
number_of-more radix text i lt = digits_value_more (base_of radix) text i lt

pub number_more : (radix : Radix) (limit : ℕ) (text : List ℕ) (i value next : ℕ) → i < length text → value ≡ number_of radix (take i text)
    → Some next ≡ cond (leb (value * base_of radix + digit_value (get_or text i 0)) limit) (Some (value * base_of radix + digit_value (get_or text i 0))) None
    → (next ≡ number_of radix (take (i + 1) text)) × (next ≤ limit)
number_more radix limit text i value next lt so_far e =
    let chosen = limited (value * base_of radix + digit_value (get_or text i 0)) limit next e in
    let more = number_of-more radix text i lt in
    let is : next ≡ number_of radix (take (i + 1) text) = rw more (rw (← so_far) chosen.1) in
    (is, omega (arith, chosen.0, chosen.1))

pub number_up_to-empty : (radix : Radix) (limit : ℕ) (text : List ℕ) → length text ≡ 0 → None ≡ number_up_to radix limit text
unfolding number_up_to
number_up_to-empty radix limit [] none = refl
number_up_to-empty radix limit (b ∷ bs) none = absurd (omega arith)

pub number_up_to-other : (radix : Radix) (limit : ℕ) (text : List ℕ) (i : ℕ) → i < length text → is_in (digit_class radix) (get_or text i 0) ≡ false → None ≡ number_up_to radix limit text
unfolding number_up_to
number_up_to-other radix limit text i lt other =
    let fails : list_all (is_in (digit_class radix)) text ≡ false = list_all-fails (is_in (digit_class radix)) text i 0 lt other in
    let some : ltb 0 (length text) ≡ true = lt-ltb 0 (length text) (omega arith) in
    rw (fails, some) refl

pub number_up_to-above : (radix : Radix) (limit : ℕ) (text : List ℕ) (i value : ℕ) → i < length text → value ≡ number_of radix (take i text)
    → None ≡ cond (leb (value * base_of radix + digit_value (get_or text i 0)) limit) (Some (value * base_of radix + digit_value (get_or text i 0))) None
    → None ≡ number_up_to radix limit text
unfolding number_up_to
number_up_to-above radix limit text i value lt so_far e =
    let past : limit < value * base_of radix + digit_value (get_or text i 0) = above (value * base_of radix + digit_value (get_or text i 0)) limit e in
    let more : number_of radix (take (i + 1) text) ≡ value * base_of radix + digit_value (get_or text i 0) = rw so_far (number_of-more radix text i lt) in
    let grows : number_of radix (take (i + 1) text) ≤ number_of radix text = number_of-take radix text (i + 1) in
    let fails : leb (number_of radix text) limit ≡ false = lt-leb (number_of radix text) limit (omega (arith, past, more, grows)) in
    elim (cases_Bool (is_numeral radix text)) [
      | inl holds ↦ rw (holds, fails) refl
      | inr none ↦ rw none refl
    ]

pub number_up_to-whole : (radix : Radix) (limit : ℕ) (text : List ℕ) (i value : ℕ) → 0 < length text → length text ≤ i → value ≡ number_of radix (take i text) → value ≤ limit
    → ((k : ℕ) → k < i → is_in (digit_class radix) (get_or text k 0) ≡ true) → Some value ≡ number_up_to radix limit text
unfolding number_up_to
number_up_to-whole radix limit text i value some end so_far below digits =
    let whole : take i text ≡ text = take_all i text end in
    let is : value ≡ number_of radix text = rw whole at so_far in
    let all : list_all (is_in (digit_class radix)) text ≡ true =
    list_all_from (is_in (digit_class radix)) text (λ k lt. digits k (omega arith)) in
    let first : ltb 0 (length text) ≡ true = lt-ltb 0 (length text) some in
    let fits : leb (number_of radix text) limit ≡ true = le-leb (number_of radix text) limit (omega (arith, is)) in
    rw (all, first, fits) (ap (λ (n : ℕ). Some n) is)

-- what a number was read from
pub number_up_to_takes : (radix : Radix) (limit : ℕ) (text : List ℕ) (n : ℕ) → number_up_to radix limit text ≡ Some n → (is_numeral radix text ≡ true) × (n ≡ number_of radix text) × (n ≤ limit)
unfolding number_up_to
number_up_to_takes radix limit text n e =
    let chosen = cond_some (is_numeral radix text && leb (number_of radix text) limit) (number_of radix text) n e in
    let parts = and_parts (is_numeral radix text) (leb (number_of radix text) limit) chosen.0 in
    let below : number_of radix text ≤ limit = leb-true (number_of radix text) limit parts.1 in
    (parts.0, sym chosen.1, omega (arith, chosen.1))

-- a number within the limit is read
pub number_up_to-is : (radix : Radix) (limit : ℕ) (text : List ℕ) → is_numeral radix text ≡ true → number_of radix text ≤ limit → number_up_to radix limit text ≡ Some (number_of radix text)
unfolding number_up_to
number_up_to-is radix limit text numeral below = rw (numeral, le-leb (number_of radix text) limit below) refl

-- so a number is read exactly of digits that denote it
pub number_up_to_exactly : (radix : Radix) (limit n : ℕ) (text : List ℕ) → (number_up_to radix limit text ≡ Some n) ↔ ((is_numeral radix text ≡ true) × (n ≡ number_of radix text) × (n ≤ limit))
number_up_to_exactly radix limit n text =
    (number_up_to_takes radix limit text n, λ is. number_up_to-is radix limit text is.0 (omega (arith, is.1, is.2)) ∙ ap (λ (m : ℕ). Some m) (sym is.1))
