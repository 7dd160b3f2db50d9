use Rattle.std.proofs.Common.{arith, rules, sym}
use Rattle.text_words.proofs.LineLaws.{returned, kept_line}
use Rattle.std.proofs.lemmas.Bool.Decides.{nat_tests}
use Rattle.text_words.proofs.lines.without_return.Goals as goal
use Rattle.text_words.proofs.lines.without_return.Goals.{else-len-gt0-via-then-len-gt0+else-line-len-eq13, else-len-gt0-via-else-len-gt0}

pub returns-then-line-len-eq13 : goal.returns-then-line-len-eq13
returns-then-line-len-eq13 c = sym (returned c.args.line.now (omega arith) (search rules))

pub returns-else-len-gt0 : goal.returns-else-len-gt0
returns-else-len-gt0 c = sym (kept_line c.args.line.now (λ positive last.
    elim c.else-len-gt0.branch [
      | else-len-gt0-via-then-len-gt0+else-line-len-eq13 w ↦ absurd (grind (arith, nat_tests, last))
      | else-len-gt0-via-else-len-gt0 w ↦ absurd (omega arith)
    ]))
