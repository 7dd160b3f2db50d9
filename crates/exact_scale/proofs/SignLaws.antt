-- Numbers under a sign.
use Rattle.std.proofs.Common.{◌≡◌, ℕ, zero, suc, ◌+◌, ◌-◌, ◌*◌, ◌^◌, ◌<◌, ◌≤◌, sym, ap, ◌∙◌, refl, arith, zero-mul, mul-suc, add-suc, mul_assoc, mul_comm, ℤ, pos, negsuc, neg_ℤ, ◌*ℤ◌}
use Rattle.std.specs.Prelude.{unsigned_abs}
use Rattle.std.proofs.Math.Nat.{eq_of_mul-eq-mul_right}
use lib.IntN.{negsuc-*ℤ-pos, pos-ne-negsuc}
use Rattle.std.proofs.lemmas.Nat.{pow-add}
use Rattle.exact_scale.specs.Fraction.{Fraction, IsSame, decimal_fraction}
use Rattle.exact_scale.specs.Limits.{numerator_over}
use Rattle.exact_scale.specs.Numeral.{Sign, NoSign, Plus, Minus, signed, sign_text}
use Rattle.exact_scale.specs.ShortestText.{minus_of}

-- the sign of a number
abbrev pub sign_of : ℤ → Sign
sign_of (pos n) = NoSign
sign_of (negsuc n) = Minus

pub signed-sign_of : (z : ℤ) → signed (sign_of z) (unsigned_abs z) ≡ z
signed-sign_of (pos n) = refl
signed-sign_of (negsuc n) = refl

pub minus_of-sign_of : (z : ℤ) → sign_text (sign_of z) ≡ minus_of z
minus_of-sign_of (pos n) = refl
minus_of-sign_of (negsuc n) = refl

pub negated_times : (a b : ℕ) → neg_ℤ (pos a) *ℤ pos b ≡ neg_ℤ (pos (a * b))
negated_times zero b = ap pos (zero-mul b) ∙ sym (ap (λ n. neg_ℤ (pos n)) (zero-mul b))
negated_times (suc a) b = negsuc-*ℤ-pos a b

pub signed_times : (sign : Sign) (a b : ℕ) → signed sign a *ℤ pos b ≡ signed sign (a * b)
signed_times NoSign a b = refl
signed_times Plus a b = refl
signed_times Minus a b = negated_times a b

abs_negated : (n : ℕ) → unsigned_abs (neg_ℤ (pos n)) ≡ n
abs_negated zero = refl
abs_negated (suc n) = refl

pub abs_signed : (sign : Sign) (n : ℕ) → unsigned_abs (signed sign n) ≡ n
abs_signed NoSign n = refl
abs_signed Plus n = refl
abs_signed Minus n = abs_negated n

negative_product : (b d : ℕ) → negsuc b *ℤ pos (suc d) ≡ negsuc (suc b * d + b)
negative_product b d = ap (λ n. neg_ℤ (pos n)) (mul-suc (suc b) d ∙ add-suc (suc b * d) b)

-- a positive factor cancels
pub cancel_pos : (a b : ℤ) (d : ℕ) → 0 < d → a *ℤ pos d ≡ b *ℤ pos d → a ≡ b
cancel_pos a b zero positive e = absurd (omega arith)
cancel_pos (pos a) (pos b) (suc d) positive e = ap pos (eq_of_mul-eq-mul_right (suc d) positive a b (ap unsigned_abs e))
cancel_pos (pos a) (negsuc b) (suc d) positive e = absurd (pos-ne-negsuc (a * suc d) (suc b * d + b) (e ∙ negative_product b d))
cancel_pos (negsuc a) (pos b) (suc d) positive e = absurd (pos-ne-negsuc (b * suc d) (suc a * d + a) (sym e ∙ negative_product a d))
cancel_pos (negsuc a) (negsuc b) (suc d) positive e =
    ap (λ n. neg_ℤ (pos n)) (eq_of_mul-eq-mul_right (suc d) positive (suc a) (suc b)
    (sym (abs_negated (suc a * suc d)) ∙ ap unsigned_abs e ∙ abs_negated (suc b * suc d)))

-- two factors are one
pub times_times : (z : ℤ) (a b : ℕ) → (z *ℤ pos a) *ℤ pos b ≡ z *ℤ pos (a * b)
times_times (pos n) a b = ap pos (mul_assoc n a b)
times_times (negsuc n) a b = negated_times (suc n * a) b ∙ ap (λ x. neg_ℤ (pos x)) (mul_assoc (suc n) a b)

times_swapped : (z : ℤ) (a b : ℕ) → (z *ℤ pos a) *ℤ pos b ≡ (z *ℤ pos b) *ℤ pos a
times_swapped z a b = times_times z a b ∙ ap (λ x. z *ℤ pos x) (mul_comm a b) ∙ sym (times_times z b a)

-- a positive factor keeps the minus
pub minus_of-times : (z : ℤ) (d : ℕ) → 0 < d → minus_of (z *ℤ pos d) ≡ minus_of z
minus_of-times z zero positive = absurd (omega arith)
minus_of-times (pos n) (suc d) positive = refl
minus_of-times (negsuc n) (suc d) positive = ap minus_of (negative_product n d)

-- sameness goes on
pub IsSame-sym : (a b : Fraction) → IsSame a b → IsSame b a
IsSame-sym a b h = record { cross = sym h.cross }

pub IsSame-trans : (a b c : Fraction) → 0 < b.denominator → IsSame a b → IsSame b c → IsSame a c
IsSame-trans a b c positive p q = record {
  cross = cancel_pos _ _ b.denominator positive
      (times_swapped a.numerator c.denominator b.denominator
      ∙ ap (λ z. z *ℤ pos c.denominator) p.cross
      ∙ times_swapped b.numerator a.denominator c.denominator
      ∙ ap (λ z. z *ℤ pos a.denominator) q.cross
      ∙ times_swapped c.numerator b.denominator a.denominator);
}

-- a numerator over a greater power of ten is that of the same fraction
pub numerator_same : (to : ℕ) (n : ℤ) (k : ℕ) → k ≤ to → IsSame (decimal_fraction (numerator_over to n k) to) (decimal_fraction n k)
numerator_same to n k within =
    let all : to - k + k ≡ to = omega arith in
    record { cross = times_times n (10 ^ (to - k)) (10 ^ k) ∙ ap (λ p. n *ℤ pos p) (sym (pow-add 10 (to - k) k) ∙ ap (λ e. 10 ^ e) all) }
