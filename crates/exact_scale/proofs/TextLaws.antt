-- The text that the code writes, and what it denotes.
use Rattle.std.proofs.Common.{◌≡◌, ℕ, zero, suc, ◌+◌, ◌-◌, ◌*◌, ◌/◌, ◌%◌, ◌^◌, ◌<◌, ◌≤◌, ◌⊎◌, inl, inr, List, ◌∷◌, ◌++◌, sym, ap, ◌∙◌, subst, refl, ⊎_elim, arith, append_assoc, ℤ, pos}
use Rattle.std.specs.Prelude.{unsigned_abs}
use Rattle.std.proofs.lemmas.Int.{unsigned_abs-mul}
use Rattle.exact_scale.specs.Digits.{decimal_digits, last_digits}
use Rattle.exact_scale.specs.Fraction.{IsSame, decimal_fraction}
use Rattle.exact_scale.specs.ShortestText.{decimal_text, size_text, point_text, minus_of}
use Rattle.exact_scale.proofs.PowerLaws.{ten_pos, low_digit}
use Rattle.exact_scale.proofs.SignLaws.{minus_of-times}
use Rattle.exact_scale.proofs.ZeroLaws.{point_text-odd, size_text-moved}

-- a point and all digits, where the last is not 0
pub point_written : (places rest : ℕ) → 0 < places → (places ≡ 0) ⊎ (0 < rest % 10) → 46 ∷ last_digits places rest ≡ point_text places rest
point_written zero rest some last = absurd (omega arith)
point_written (suc places) rest some last = sym (point_text-odd places rest (⊎_elim (λ none. absurd (omega arith)) (λ odd. odd) last))

-- the digits after the point end as the number does
pub last_kept : (size places rest : ℕ) → rest ≡ size % 10 ^ places → (places ≡ 0) ⊎ (0 < size % 10) → (places ≡ 0) ⊎ (0 < rest % 10)
last_kept size zero rest e last = inl refl
last_kept size (suc places) rest e last =
    ⊎_elim (λ none. inl none) (λ odd. inr (subst (λ r. 0 < r % 10) (sym e) (subst (λ d. 0 < d) (sym (low_digit size places)) odd))) last

-- the text of a number whose last zeros were cut off
pub text_joined : (n : ℤ) (k size places whole rest : ℕ) → places ≤ k → unsigned_abs n ≡ size * 10 ^ (k - places)
    → whole ≡ size / 10 ^ places → rest ≡ size % 10 ^ places → decimal_text n k ≡ minus_of n ++ (decimal_digits whole ++ point_text places rest)
text_joined n k size places whole rest shorter cut w r =
    let all : k ≡ places + (k - places) = omega arith in
    ap (λ s. minus_of n ++ s)
    (ap (λ m. size_text m k) cut ∙ ap (λ p. size_text (size * 10 ^ (k - places)) p) all ∙ size_text-moved size places (k - places)
    ∙ ap (λ a. decimal_digits a ++ point_text places (size % 10 ^ places)) (sym w) ∙ ap (λ b. decimal_digits whole ++ point_text places b) (sym r))

-- the pieces, one after the other
pub pieces_joined : (old first second third a b c : List ℕ) → first ≡ old ++ a → second ≡ first ++ b → third ≡ second ++ c → third ≡ old ++ (a ++ (b ++ c))
pieces_joined old first second third a b c p q r =
    r ∙ ap (λ l. l ++ c) (q ∙ ap (λ l. l ++ b) p ∙ append_assoc old a b) ∙ append_assoc old (a ++ b) c ∙ ap (λ l. old ++ l) (append_assoc a b c)

-- one fraction has one text
pub same_text : (n m : ℤ) (k j : ℕ) → IsSame (decimal_fraction n k) (decimal_fraction m j) → decimal_text n k ≡ decimal_text m j
same_text n m k j same =
    let sizes : unsigned_abs n * 10 ^ j ≡ unsigned_abs m * 10 ^ k =
    sym (unsigned_abs-mul n (pos (10 ^ j))) ∙ ap unsigned_abs same.cross ∙ unsigned_abs-mul m (pos (10 ^ k)) in
    let turned : k + j ≡ j + k = omega arith in
    let minus : minus_of n ≡ minus_of m =
    sym (minus_of-times n (10 ^ j) (ten_pos j)) ∙ ap minus_of same.cross ∙ minus_of-times m (10 ^ k) (ten_pos k) in
    ap (λ s. s ++ size_text (unsigned_abs n) k) minus
    ∙ ap (λ s. minus_of m ++ s)
    (sym (size_text-moved (unsigned_abs n) k j) ∙ ap (λ s. size_text s (k + j)) sizes
    ∙ ap (λ p. size_text (unsigned_abs m * 10 ^ k) p) turned ∙ size_text-moved (unsigned_abs m) j k)
