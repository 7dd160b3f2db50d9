use Rattle.std.proofs.Common.{◌∙◌, sym, arith}
use Rattle.ldf_grammar.specs.Unknown.{unknown_encoding}
use Rattle.ldf_grammar.proofs.StepLaws.{place_found, place_passed, no_place}
use Rattle.ldf_grammar.proofs.unknown.unknown_in_lines.Goals as goal

pub returns-in-Some : goal.returns-in-Some
returns-in-Some c = λ d has.
    sym (place_found (unknown_encoding c.args.bytes.now d) c.args.lines.now c.loop-line.line-index c.line-item.result _ c.loop-line-test.true c.line-item.is (sym (c.in-Some.ensures d has)))
    ∙ c.loop-line.invariant d has

pub loop-line-preserved : goal.loop-line-preserved
loop-line-preserved c = λ d has.
    place_passed (unknown_encoding c.args.bytes.now d) c.args.lines.now c.loop-line.line-index c.line-item.result c.loop-line-test.true c.line-item.is (sym (c.in_default.ensures d has))
    ∙ c.loop-line.invariant d has

pub returns : goal.returns
returns c = λ d has. sym (no_place (unknown_encoding c.args.bytes.now d) c.args.lines.now c.loop-line.line-index (omega arith)) ∙ c.loop-line.invariant d has
