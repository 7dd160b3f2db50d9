use Rattle.std.proofs.Common.{arith}
use Rattle.std.proofs.lemmas.Bool.Decides.{nat_tests}
use Rattle.exact_scale.proofs.PartsLaws.{has_parts, no_digits, bad_exponent}
use Rattle.exact_scale.proofs.parts.Parts.split.Goals as goal
use Rattle.exact_scale.proofs.parts.Parts.split.Goals.{else-is_empty-via-then-is_empty+else-is_empty-2, else-is_empty-via-else-is_empty}

pub returns-then-is_empty-2-clause-none : goal.returns-then-is_empty-2-clause-none
returns-then-is_empty-2-clause-none c =
    no_digits c.args.text.now _ _ _ _ _ _ c.split_sign-negative.ensures c.split_digits.ensures c.split_point.ensures (grind (arith, nat_tests))

pub returns-in-None-clause-none : goal.returns-in-None-clause-none
returns-in-None-clause-none c =
    bad_exponent c.args.text.now _ _ _ _ _ _ c.split_sign-negative.ensures c.split_digits.ensures c.split_point.ensures c.in-None.ensures.none

pub returns-in-Some-clause-some : goal.returns-in-Some-clause-some
returns-in-Some-clause-some c =
    has_parts c.args.text.now _ _ _ _ _ _ _ _ c.split_sign-negative.ensures c.split_digits.ensures c.split_point.ensures c.in-Some.ensures.some
    (elim c.else-is_empty.branch [
      | else-is_empty-via-then-is_empty+else-is_empty-2 w ↦ grind (arith, nat_tests)
      | else-is_empty-via-else-is_empty w ↦ grind (arith, nat_tests)
    ])
