use Rattle.std.proofs.Common.{◌+◌, ◌*◌, sym, subst, arith}
use Rattle.exact_scale.specs.Parts.{IsSignificand}
use Rattle.exact_scale.proofs.SignificandLaws.{pushed_zero}
use Rattle.exact_scale.proofs.significand.Significand.push.Goals as goal

pub returns-then-self-ne0-clause-number : goal.returns-then-self-ne0-clause-number
returns-then-self-ne0-clause-number c = λ n s.
    subst (λ d. IsSignificand (n * 10 + d) c.args.self.size (c.args.self.zeros + 1)) (sym c.if-digit-ne0.false)
    (pushed_zero n c.args.self.size c.args.self.zeros (omega arith) s)
