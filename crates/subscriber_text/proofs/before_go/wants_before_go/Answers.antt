use Rattle.std.proofs.Common.{◌∙◌, arith, rules}
use Rattle.subscriber_text.proofs.GoLaws.{fed_first, read_line, found_go, all_read}
use Rattle.subscriber_text.proofs.before_go.wants_before_go.Goals as goal

pub returns-then-begins_with_go-clause-says : goal.returns-then-begins_with_go-clause-says
returns-then-begins_with_go-clause-says c =
    let e = c.in-Some.ensures in
    found_go c.args.bytes.now c.lines.rest.now c.in-Some.line.now c.in-Some.after.now c.args.ended c.counts_last-last.result c.lines.lines c.begins_with_go.result c.counts_last-last.ensures c.lines.invariant
    (fed_first c.lines.rest.now c.in-Some.line.now c.in-Some.after.now e.line e.cut) c.begins_with_go.ensures c.if-begins_with_go.true

pub overflow_add-lines : goal.overflow_add-lines
overflow_add-lines c = omega (arith, c.lines.invariant.bound, c.in-Some.ensures.shorter, c.requires)

pub lines-preserved : goal.lines-preserved
lines-preserved c =
    let e = c.in-Some.ensures in
    read_line c.counts_last-last.result c.args.bytes.now c.lines.rest.now c.in-Some.line.now c.in-Some.after.now c.lines.lines c.begins_with_go.result c.lines.invariant
    (fed_first c.lines.rest.now c.in-Some.line.now c.in-Some.after.now e.line e.cut) c.begins_with_go.ensures c.if-begins_with_go.false e.shorter

pub without_go-requires : goal.without_go-requires
without_go-requires c =
    (all_read c.args.bytes.now c.lines.rest.now c.args.ended c.counts_last-last.result c.lines.lines c.counts_last-last.ensures (c.next_line.ensures.none.0 (search rules)) c.lines.invariant).0

pub returns-clause-says : goal.returns-clause-says
returns-clause-says c =
    c.without_go.ensures ∙ (all_read c.args.bytes.now c.lines.rest.now c.args.ended c.counts_last-last.result c.lines.lines c.counts_last-last.ensures (c.next_line.ensures.none.0 (search rules)) c.lines.invariant).1
