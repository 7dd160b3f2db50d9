use Rattle.std.proofs.Common.{length, sym, ◌∙◌, arith, below_more}
use Rattle.std.proofs.lemmas.Bool.{eqb-true, eqb-false}
use Rattle.byte_forms.proofs.NumberLaws.{number_more, number_up_to-empty, number_up_to-other, number_up_to-above, number_up_to-whole}
use Rattle.byte_forms.proofs.numerals.number_up_to.Goals as goal

pub returns-then-is_empty-clause-value : goal.returns-then-is_empty-clause-value
returns-then-is_empty-clause-value c =
    number_up_to-empty c.args.radix c.args.limit c.args.text.now (eqb-true (length c.args.text.now) 0 (sym c.is_empty.ensures ∙ c.if-is_empty.true))

pub returns-then-not-has-clause-value : goal.returns-then-not-has-clause-value
returns-then-not-has-clause-value c =
    number_up_to-other c.args.radix c.args.limit c.args.text.now c.loop-digit.digit-index c.loop-digit-test.true (rw c.digit_class-class.ensures at (sym c.has.ensures ∙ c.if-not-has.true))

pub returns-in_err-value-clause-value : goal.returns-in_err-value-clause-value
returns-in_err-value-clause-value c =
    c.from_residual.ensures ∙ number_up_to-above c.args.radix c.args.limit c.args.text.now c.loop-digit.digit-index c.loop-digit.value c.loop-digit-test.true c.loop-digit.invariant.value (rw c.base_of.ensures at c.in_err-value.ensures)

pub loop-digit-preserved : goal.loop-digit-preserved
loop-digit-preserved c =
    let step = number_more c.args.radix c.args.limit c.args.text.now c.loop-digit.digit-index c.loop-digit.value c.in_ok-value.value c.loop-digit-test.true c.loop-digit.invariant.value (rw c.base_of.ensures at c.in_ok-value.ensures) in
    record {
      value = step.0;
      below = step.1;
      digits = below_more _ _ c.loop-digit.invariant.digits (rw c.digit_class-class.ensures at (sym c.has.ensures ∙ c.if-not-has.false));
    }

pub returns-clause-value : goal.returns-clause-value
returns-clause-value c =
    number_up_to-whole c.args.radix c.args.limit c.args.text.now c.loop-digit.digit-index c.loop-digit.value (omega (arith, eqb-false (length c.args.text.now) 0 (sym c.is_empty.ensures ∙ c.if-is_empty.false))) c.loop-digit-test.false c.loop-digit.invariant.value c.loop-digit.invariant.below c.loop-digit.invariant.digits
