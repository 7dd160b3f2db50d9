use Rattle.exact_scale.proofs.SignificandLaws.{pushed_digit, pushed_far}
use Rattle.exact_scale.proofs.significand.join.Goals as goal

pub returns-then-prefix-lt18 : goal.returns-then-prefix-lt18
returns-then-prefix-lt18 c = λ n s.
    pushed_digit n c.args.prefix.size c.args.prefix.zeros c.args.digit c.min.result c.requires.positive c.requires.digit (cc) s

pub returns-else-prefix-lt18 : goal.returns-else-prefix-lt18
returns-else-prefix-lt18 c = λ n s.
    pushed_far n c.args.prefix.size c.args.prefix.zeros c.args.digit c.requires.positive c.requires.digit c.if-prefix-lt18.false s
