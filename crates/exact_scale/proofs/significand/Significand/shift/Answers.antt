use Rattle.std.proofs.Common.{◌*◌, ◌^◌, ◌≤◌, ◌∙◌, ap, subst, arith}
use Rattle.exact_scale.proofs.SignificandLaws.{moves_within, moves_low, moves_high, moves_wide}
use Rattle.exact_scale.proofs.significand.Significand.shift.Goals as goal
use Rattle.exact_scale.proofs.significand.Significand.shift.Goals.{then-up-gt18-via-then-up-gt18, then-up-gt18-via-else-up-gt18+then-down-gt-MOST_PLACES}

pub returns-then-up-gt18-clause-none : goal.returns-then-up-gt18-clause-none
returns-then-up-gt18-clause-none c = λ short rise fall m. elim c.then-up-gt18.branch [
  | then-up-gt18-via-then-up-gt18 w ↦ moves_high c.args.self.size c.args.up c.args.down short rise fall (omega arith) (omega arith) m
  | then-up-gt18-via-else-up-gt18+then-down-gt-MOST_PLACES w ↦ moves_low c.args.self.size c.args.up c.args.down short rise fall (omega arith) (omega arith) m
]

pub returns-then-size-ge-NUMERATOR_LIMIT-clause-none : goal.returns-then-size-ge-NUMERATOR_LIMIT-clause-none
returns-then-size-ge-NUMERATOR_LIMIT-clause-none c = λ short rise fall m.
    moves_wide c.args.self.size c.args.up c.args.down short rise fall (omega arith) (omega arith)
    (subst (λ n. 2 ^ 62 ≤ n) (ap (λ f. f * c.pow.result) c.from.ensures ∙ ap (λ p. c.args.self.size * p) c.pow.ensures) c.if-size-ge-NUMERATOR_LIMIT.true) m

pub returns-clause-some : goal.returns-clause-some
returns-clause-some c = λ short rise fall m.
    moves_within c.args.self.size c.args.up c.args.down short rise fall (c.from.result * c.pow.result) (omega arith) (omega arith) (omega arith)
    (ap (λ f. f * c.pow.result) c.from.ensures ∙ ap (λ p. c.args.self.size * p) c.pow.ensures) (omega arith) m
