use Rattle.std.proofs.Common.{inl, inr, arith}
use Rattle.std.proofs.lemmas.Bool.Decides.{nat_tests}
use Rattle.exact_scale.proofs.PartsLaws.{no_signed}
use Rattle.exact_scale.proofs.parts.read_signed.Goals as goal
use Rattle.exact_scale.proofs.parts.read_signed.Goals.{then-is_empty-via-then-is_empty, then-is_empty-via-else-is_empty+then-not-is_empty}

pub returns-then-is_empty-clause-none : goal.returns-then-is_empty-clause-none
returns-then-is_empty-clause-none c =
    no_signed c.args.text.now _ _ _ _ c.split_sign-negative.ensures c.split_digits.ensures (elim c.then-is_empty.branch [
      | then-is_empty-via-then-is_empty w ↦ inl (grind (arith, nat_tests))
      | then-is_empty-via-else-is_empty+then-not-is_empty w ↦ inr (grind (arith, nat_tests))
    ])
