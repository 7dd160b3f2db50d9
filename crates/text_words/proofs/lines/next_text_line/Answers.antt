use Rattle.std.proofs.Common.{arith}
use Rattle.std.proofs.lemmas.Bool.Decides.{nat_tests}
use Rattle.text_words.proofs.LineLaws.{first_line, last_line}
use Rattle.text_words.proofs.lines.next_text_line.Goals as goal

pub returns-in-empty-clause-line : goal.returns-in-empty-clause-line
returns-in-empty-clause-line c =
    last_line c.args.bytes.now c.run.result.0.now c.run.result.1.now c.run.ensures.run c.run.ensures.whole (omega arith) (grind (arith, nat_tests, c.if-is_empty.ensures))

pub returns-in-len1-up-clause-line : goal.returns-in-len1-up-clause-line
returns-in-len1-up-clause-line c =
    first_line c.args.bytes.now c.run.result.0.now c.run.result.1.now c.without_return.result.now c.run.ensures.run c.run.ensures.rest c.run.ensures.whole (omega arith)
    c.without_return.ensures
