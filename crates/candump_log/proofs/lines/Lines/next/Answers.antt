use Rattle.std.proofs.Common.{Some, Ok}
use Rattle.candump_log.proofs.AnswerLaws.{given_keeps}
use Rattle.candump_log.proofs.lines.Lines.next.Goals as goal

pub returns-in-Some-clause-limits : goal.returns-in-Some-clause-limits
returns-in-Some-clause-limits g c =
    let answer = rw c.in-Some.is at c.in_ok-routed.ensures.answer in
    given_keeps c.one_line.ensures.limits _ _ (Ok (Some c.in-Some.routed.line)) answer.0
