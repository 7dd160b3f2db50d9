use Rattle.std.proofs.Common.{◌<◌, ◌∙◌, sym, length, arith}
use Rattle.std.proofs.lemmas.Bool.{eqb-false}
use Rattle.byte_forms.proofs.LineLaws.{all_lines-at_end, all_lines-behind, IsCut-at_end, IsCut-behind}
use Rattle.byte_forms.proofs.lines.next_line.Goals as goal

pub returns-in-empty-clause-line : goal.returns-in-empty-clause-line
returns-in-empty-clause-line c =
    let some : 0 < length c.args.bytes.now = omega (arith, eqb-false (length c.args.bytes.now) 0 (sym c.is_empty.ensures ∙ c.if-is_empty.false)) in
    rw c.run.ensures.run (all_lines-at_end c.args.bytes.now c.run.result.1.now some c.run.ensures.rest c.in-empty.len_below)

pub returns-in-len1-up-clause-line : goal.returns-in-len1-up-clause-line
returns-in-len1-up-clause-line c =
    rw c.run.ensures.run (all_lines-behind c.args.bytes.now c.run.result.1.now c.run.ensures.rest c.in-len1-up.len_at_least)

pub returns-in-empty-clause-cut : goal.returns-in-empty-clause-cut
returns-in-empty-clause-cut c =
    IsCut-at_end c.args.bytes.now c.run.result.0.now c.run.result.1.now c.run.ensures.whole c.in-empty.len_below

pub returns-in-len1-up-clause-cut : goal.returns-in-len1-up-clause-cut
returns-in-len1-up-clause-cut c =
    IsCut-behind c.args.bytes.now c.run.result.0.now c.run.result.1.now c.run.ensures.whole c.run.ensures.rest c.in-len1-up.len_at_least
