use Rattle.std.proofs.Common.{◌∙◌, sym, arith}
use Rattle.ldf_grammar.specs.Unknown.{unknown_in_frame}
use Rattle.ldf_grammar.proofs.StepLaws.{place_found, place_passed, no_place}
use Rattle.ldf_grammar.proofs.unknown.unknown_in_frames.Goals as goal

pub returns-in-Some : goal.returns-in-Some
returns-in-Some c = λ d has.
    sym (place_found (unknown_in_frame c.args.bytes.now d) c.args.frames.now c.loop-frame.frame-index c.frame-item.result _ c.loop-frame-test.true c.frame-item.is (sym (c.in-Some.ensures d has)))
    ∙ c.loop-frame.invariant d has

pub loop-frame-preserved : goal.loop-frame-preserved
loop-frame-preserved c = λ d has.
    place_passed (unknown_in_frame c.args.bytes.now d) c.args.frames.now c.loop-frame.frame-index c.frame-item.result c.loop-frame-test.true c.frame-item.is (sym (c.in_default.ensures d has))
    ∙ c.loop-frame.invariant d has

pub returns : goal.returns
returns c = λ d has. sym (no_place (unknown_in_frame c.args.bytes.now d) c.args.frames.now c.loop-frame.frame-index (omega arith)) ∙ c.loop-frame.invariant d has
