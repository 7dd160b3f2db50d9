use Rattle.std.proofs.Common.{◌≡◌, ℕ, ◌+◌, ◌-◌, ◌<◌, List, length, take, drop, ◌∙◌, sym, subst, arith}
use Rattle.std.proofs.lemmas.List.{take_rest}
use Rattle.sig_text.specs.Prefixes.{IsLongestPrefix}
use Rattle.sig_text.specs.Lexemes.{IsFraction, IsMantissa}
use Rattle.sig_text.proofs.NumberLaws.{mantissa_nothing, mantissa_bare, mantissa_whole}
use Rattle.sig_text.proofs.number.mantissa_len.Goals as goal
use Rattle.sig_text.proofs.number.mantissa_len.Goals.{else-whole-eq0-via-then-whole-eq0+else-fraction-lt2, else-whole-eq0-via-else-whole-eq0}

-- without digits the fraction is that of the text itself
fraction_first : (text : List ℕ) (whole fraction : ℕ) → whole ≡ 0 → IsLongestPrefix IsFraction (take (length text - whole) (drop whole text)) fraction → IsLongestPrefix IsFraction text fraction
fraction_first text whole fraction none prefix =
    subst (λ n. IsLongestPrefix IsFraction (drop n text) fraction) none (subst (λ s. IsLongestPrefix IsFraction s fraction) (take_rest text whole) prefix)

pub returns-then-fraction-lt2 : goal.returns-then-fraction-lt2
returns-then-fraction-lt2 c =
    let whole = c.digits_len-whole in
    let none : whole.result ≡ 0 = omega arith in
    let short : c.fraction_len-fraction.result < 2 = omega arith in
    mantissa_nothing c.args.text.now c.fraction_len-fraction.result (sym whole.ensures.run ∙ none) (fraction_first c.args.text.now whole.result _ none c.fraction_len-fraction.ensures) short

pub returns-else-whole-eq0 : goal.returns-else-whole-eq0
returns-else-whole-eq0 c =
    let text = c.args.text.now in
    let whole = c.digits_len-whole in
    let fraction = c.fraction_len-fraction in
    elim c.else-whole-eq0.branch [
      | else-whole-eq0-via-then-whole-eq0+else-fraction-lt2 w ↦
          let none : whole.result ≡ 0 = omega arith in
          let sum : fraction.result ≡ whole.result + fraction.result = omega arith in
          subst (IsLongestPrefix IsMantissa text) sum
          (mantissa_bare text fraction.result (sym whole.ensures.run ∙ none) (fraction_first text whole.result _ none fraction.ensures) (omega arith))
      | else-whole-eq0-via-else-whole-eq0 w ↦
          mantissa_whole text whole.result fraction.result whole.ensures.run (omega arith)
          (subst (λ s. IsLongestPrefix IsFraction s fraction.result) (take_rest text whole.result) fraction.ensures)
    ]
