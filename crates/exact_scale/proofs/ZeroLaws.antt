-- The text of a fraction, moved up by zeros.
use Rattle.std.proofs.Common.{◌≡◌, ◌≢◌, ℕ, zero, suc, ◌+◌, ◌*◌, ◌/◌, ◌%◌, ◌^◌, ◌<◌, Bool, true, false, ◌&&◌, cond, eqb, List, [], ◌∷◌, ◌++◌, sym, ap, ◌∙◌, refl, arith, pow-suc, mul_assoc, mul-one}
use Rattle.std.specs.List.{list_all}
use Rattle.std.proofs.Math.Nat.{mul-div_cancel, mul-mod_left}
use Rattle.std.proofs.lemmas.List.Folds.{list_all-append}
use borrow.Author.Tests.{ne_eqb}
use Rattle.exact_scale.specs.Digits.{decimal_digits, last_digits}
use Rattle.exact_scale.specs.ShortestText.{without_last_zeros, point_text, size_text}
use Rattle.exact_scale.proofs.PowerLaws.{whole_moved, rest_moved}

abbrev is_zero : ℕ → Bool
is_zero d = eqb d 48

and_true : (b : Bool) → (b && true) ≡ b
and_true true = refl
and_true false = refl

and_false : (b : Bool) → (b && false) ≡ false
and_false true = refl
and_false false = refl

-- a zero at the end is left out
pub without_last_zeros-push_zero : (digits : List ℕ) → without_last_zeros (digits ++ 48 ∷ []) ≡ without_last_zeros digits
without_last_zeros-push_zero [] = refl
without_last_zeros-push_zero (d ∷ digits) =
    ap (λ b. cond b [] (d ∷ without_last_zeros (digits ++ 48 ∷ []))) (list_all-append is_zero (d ∷ digits) (48 ∷ []) ∙ and_true (list_all is_zero (d ∷ digits)))
    ∙ ap (λ rest. cond (list_all is_zero (d ∷ digits)) [] (d ∷ rest)) (without_last_zeros-push_zero digits)

-- another digit at the end keeps all
pub without_last_zeros-push_other : (digits : List ℕ) (last : ℕ) → last ≢ 48 → without_last_zeros (digits ++ last ∷ []) ≡ digits ++ last ∷ []
without_last_zeros-push_other [] last other = ap (λ b. cond (b && true) [] (last ∷ [])) (ne_eqb last 48 other)
without_last_zeros-push_other (d ∷ digits) last other =
    ap (λ b. cond b [] (d ∷ without_last_zeros (digits ++ last ∷ [])))
    (list_all-append is_zero (d ∷ digits) (last ∷ []) ∙ ap (λ b. list_all is_zero (d ∷ digits) && (b && true)) (ne_eqb last 48 other) ∙ and_false (list_all is_zero (d ∷ digits)))
    ∙ ap (λ rest. d ∷ rest) (without_last_zeros-push_other digits last other)

-- where the last digit is not 0, all digits after the point are written
pub point_text-odd : (places rest : ℕ) → 0 < rest % 10 → point_text (suc places) rest ≡ 46 ∷ last_digits (suc places) rest
point_text-odd places zero odd = absurd (omega arith)
point_text-odd places (suc r) odd =
    let rest = suc r in
    ap (λ b. cond b [] (46 ∷ without_last_zeros (last_digits (suc places) rest))) (ne_eqb rest 0 (λ e. omega arith))
    ∙ ap (λ digits. 46 ∷ digits) (without_last_zeros-push_other (last_digits places (rest / 10)) (48 + rest % 10) (λ e. omega arith))

point_step : (places rest : ℕ) → point_text (suc places) (rest * 10) ≡ point_text places rest
point_step places zero = refl
point_step places (suc r) =
    let rest = suc r in
    ap (λ b. cond b [] (46 ∷ without_last_zeros (last_digits (suc places) (rest * 10)))) (ne_eqb (rest * 10) 0 (λ e. omega arith))
    ∙ ap (λ q. 46 ∷ without_last_zeros (last_digits places q ++ (48 + rest * 10 % 10) ∷ [])) (mul-div_cancel rest (omega arith))
    ∙ ap (λ d. 46 ∷ without_last_zeros (last_digits places rest ++ (48 + d) ∷ [])) (mul-mod_left rest 10)
    ∙ ap (λ digits. 46 ∷ digits) (without_last_zeros-push_zero (last_digits places rest))
    ∙ sym (ap (λ b. cond b [] (46 ∷ without_last_zeros (last_digits places rest))) (ne_eqb rest 0 (λ e. omega arith)))

point_moved : (places rest j : ℕ) → point_text (places + j) (rest * 10 ^ j) ≡ point_text places rest
point_moved places rest zero =
    let same : places + 0 ≡ places = omega arith in
    ap (λ p. point_text p (rest * 1)) same ∙ ap (point_text places) (mul-one rest)
point_moved places rest (suc j) =
    let more : places + suc j ≡ suc (places + j) = omega arith in
    ap (λ p. point_text p (rest * 10 ^ suc j)) more
    ∙ ap (point_text (suc (places + j))) (ap (λ p. rest * p) (pow-suc 10 j) ∙ sym (mul_assoc rest (10 ^ j) 10))
    ∙ point_step (places + j) (rest * 10 ^ j)
    ∙ point_moved places rest j

-- a fraction over a higher power of ten has the same text
pub size_text-moved : (size k j : ℕ) → size_text (size * 10 ^ j) (k + j) ≡ size_text size k
size_text-moved size k j =
    ap (λ whole. decimal_digits whole ++ point_text (k + j) (size * 10 ^ j % 10 ^ (k + j))) (whole_moved size k j)
    ∙ ap (λ rest. decimal_digits (size / 10 ^ k) ++ point_text (k + j) rest) (rest_moved size k j)
    ∙ ap (λ text. decimal_digits (size / 10 ^ k) ++ text) (point_moved k (size % 10 ^ k) j)
