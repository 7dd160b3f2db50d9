-- The least power of ten over which a fraction is.
use Rattle.std.proofs.Common.{◌≡◌, ℕ, suc, ◌+◌, ◌-◌, ◌*◌, ◌^◌, ◌%◌, ◌<◌, ◌≤◌, sym, ap, ◌∙◌, ⊎_elim, arith, ℤ, pos, ◌*ℤ◌, le_antisymm}
use Rattle.std.specs.Prelude.{unsigned_abs}
use Rattle.std.proofs.lemmas.Int.{unsigned_abs-mul}
use Rattle.std.proofs.lemmas.Bool.{cases_lt}
use Rattle.exact_scale.specs.Fraction.{Fraction, IsLeastDecimal}
use Rattle.exact_scale.specs.Numeral.{Sign, signed}
use Rattle.exact_scale.proofs.PowerLaws.{ten_times, ten_moved, cancel_ten, last_digit}
use Rattle.exact_scale.proofs.SignLaws.{signed_times, abs_signed, cancel_pos}

too_few : (s up j i m : ℕ) → m * 10 ^ (up + j + suc i) ≡ s * 10 ^ up * 10 ^ j → s % 10 ≡ 0
too_few s up j i m e =
    let cut = cancel_ten (m * 10 ^ suc i) s (up + j)
    (ten_times m (suc i) (up + j) ∙ ap (λ x. m * 10 ^ x) (omega arith) ∙ e ∙ ten_times s up j) in
    ap (λ x. x % 10) (sym cut) ∙ last_digit m i

-- a number that does not end in 0, moved up and down: fewer places than are left over do not make it whole
pub least_places : (s up down j m : ℕ) → 0 < s % 10 → m * 10 ^ down ≡ s * 10 ^ up * 10 ^ j → down - up ≤ j
least_places s up down j m odd e = ⊎_elim
    (λ (few : j < down - up).
    let i = down - (up + j + 1) in
    let parts : down ≡ up + j + suc i = omega arith in
    let zero_end = too_few s up j i m (ap (λ x. m * 10 ^ x) (sym parts) ∙ e) in
    absurd (omega arith))
    (λ enough. enough)
    (cases_lt j (down - up))

-- the number itself, over what is left
pub same_places : (s up down : ℕ) → s * 10 ^ (up - down) * 10 ^ down ≡ s * 10 ^ up * 10 ^ (down - up)
same_places s up down = ten_moved s (up - down) down up (down - up) (omega arith)

-- under a sign: the numbers' equation is that of the fractions
pub least_signed : (sign : Sign) (num den n k : ℕ) → n * den ≡ num * 10 ^ k
    → ((j m : ℕ) → m * den ≡ num * 10 ^ j → k ≤ j)
    → IsLeastDecimal (record { numerator = signed sign num; denominator = den }) (signed sign n) k
least_signed sign num den n k same least = record {
  same = record { cross = signed_times sign n den ∙ ap (signed sign) same ∙ sym (signed_times sign num (10 ^ k)) };
  least = λ j m h. least j (unsigned_abs m)
      (sym (unsigned_abs-mul m (pos den)) ∙ ap unsigned_abs h.cross ∙ ap unsigned_abs (signed_times sign num (10 ^ j)) ∙ abs_signed sign (num * 10 ^ j));
}

-- the same fraction has one least decimal
pub least_once : (value : Fraction) (n m : ℤ) (k j : ℕ) → 0 < value.denominator → IsLeastDecimal value n k → IsLeastDecimal value m j → (n ≡ m) × (k ≡ j)
least_once value n m k j positive a b =
    let places = le_antisymm (a.least j m b.same) (b.least k n a.same) in
    (cancel_pos n m value.denominator positive (a.same.cross ∙ ap (λ x. value.numerator *ℤ pos (10 ^ x)) places ∙ sym b.same.cross), places)
