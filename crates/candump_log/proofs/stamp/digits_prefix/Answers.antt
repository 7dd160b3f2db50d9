use Rattle.std.proofs.Common.{◌≡◌, ◌<◌, ◌^◌, length, sym, ◌∙◌, arith, below_more}
use Rattle.candump_log.proofs.StampLaws.{value-below, value_more, digits_end, digits_too_many}
use Rattle.candump_log.proofs.stamp.digits_prefix.Goals as goal

pub returns-then-not-is_ascii_digit-clause-value : goal.returns-then-not-is_ascii_digit-clause-value
returns-then-not-is_ascii_digit-clause-value c =
    digits_end c.args.most c.args.bytes.now c.loop-i.i c.loop-i.value (omega arith) c.loop-i.invariant.few c.loop-i.invariant.digits
    (λ _. sym c.is_ascii_digit.ensures.value ∙ c.if-not-is_ascii_digit.true) c.loop-i.invariant.value_is

pub returns-then-not-is_ascii_digit-clause-below : goal.returns-then-not-is_ascii_digit-clause-below
returns-then-not-is_ascii_digit-clause-below c =
    value-below c.a_number_is_that_of_its_digits.ensures.below c.args.bytes.now c.loop-i.i 12 c.loop-i.value (omega arith) (omega (arith, c.loop-i.invariant.few)) c.loop-i.invariant.digits c.loop-i.invariant.value_is

pub returns-then-i-most-clause-value : goal.returns-then-i-most-clause-value
returns-then-i-most-clause-value c =
    let e : c.loop-i.i ≡ c.args.most = omega arith in
    digits_too_many c.args.most c.args.bytes.now (omega arith) (rw e at c.loop-i.invariant.digits)
    (rw e at (sym c.is_ascii_digit.ensures.value ∙ c.if-not-is_ascii_digit.false))

pub overflow_mul-value : goal.overflow_mul-value
overflow_mul-value c =
    let b : c.loop-i.value < 10 ^ 12 = value-below c.a_number_is_that_of_its_digits.ensures.below c.args.bytes.now c.loop-i.i 12 c.loop-i.value (omega arith) (omega (arith, c.loop-i.invariant.few)) c.loop-i.invariant.digits c.loop-i.invariant.value_is in
    omega arith

pub overflow_add-value : goal.overflow_add-value
overflow_add-value c =
    let b : c.loop-i.value < 10 ^ 12 = value-below c.a_number_is_that_of_its_digits.ensures.below c.args.bytes.now c.loop-i.i 12 c.loop-i.value (omega arith) (omega (arith, c.loop-i.invariant.few)) c.loop-i.invariant.digits c.loop-i.invariant.value_is in
    omega (arith, c.from.ensures)

pub loop-i-preserved : goal.loop-i-preserved
loop-i-preserved c = record {
  digits = below_more _ _ c.loop-i.invariant.digits (sym c.is_ascii_digit.ensures.value ∙ c.if-not-is_ascii_digit.false);
  value_is = rw c.from.ensures (value_more c.args.bytes.now c.loop-i.i c.loop-i.value c.loop-i-test.true (sym c.is_ascii_digit.ensures.value ∙ c.if-not-is_ascii_digit.false) c.loop-i.invariant.value_is);
  few = omega (arith, c.loop-i.invariant.few, c.if-i-most.false);
}

pub returns-clause-value : goal.returns-clause-value
returns-clause-value c =
    let e : c.loop-i.i ≡ length c.args.bytes.now = omega arith in
    digits_end c.args.most c.args.bytes.now (length c.args.bytes.now) c.loop-i.value (omega arith) (omega (arith, c.loop-i.invariant.few))
    (rw e at c.loop-i.invariant.digits) (λ past. absurd (omega arith)) (rw e at c.loop-i.invariant.value_is)

pub returns-clause-below : goal.returns-clause-below
returns-clause-below c =
    value-below c.a_number_is_that_of_its_digits.ensures.below c.args.bytes.now c.loop-i.i 12 c.loop-i.value (omega arith) (omega (arith, c.loop-i.invariant.few)) c.loop-i.invariant.digits c.loop-i.invariant.value_is
