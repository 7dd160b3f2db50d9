use Rattle.std.proofs.Common.{◌∙◌, sym, ap, arith}
use Rattle.ldf_grammar.specs.Unknown.{first_place, unknown_signal}
use Rattle.ldf_grammar.proofs.StepLaws.{place_found, place_passed, no_place, own_default}
use Rattle.ldf_grammar.proofs.unknown.unknown_in_frame.Goals as goal

pub returns-in-Some : goal.returns-in-Some
returns-in-Some c = λ d has.
    sym (place_found (unknown_signal c.args.bytes.now d) c.items-signal-items.result.now c.loop-signal.signal-index _ _ c.loop-signal-test.true (own_default c.items-signal-items.result.now c.loop-signal.signal-index _ c.loop-signal-test.true) (sym (c.in-Some.ensures d has)))
    ∙ c.loop-signal.invariant d has ∙ ap (first_place (unknown_signal c.args.bytes.now d)) c.items-signal-items.ensures

pub loop-signal-preserved : goal.loop-signal-preserved
loop-signal-preserved c = λ d has.
    place_passed (unknown_signal c.args.bytes.now d) c.items-signal-items.result.now c.loop-signal.signal-index _ c.loop-signal-test.true (own_default c.items-signal-items.result.now c.loop-signal.signal-index _ c.loop-signal-test.true) (sym (c.in_default.ensures d has))
    ∙ c.loop-signal.invariant d has

pub returns : goal.returns
returns c = λ d has. sym (no_place (unknown_signal c.args.bytes.now d) c.items-signal-items.result.now c.loop-signal.signal-index (omega arith)) ∙ c.loop-signal.invariant d has
    ∙ ap (first_place (unknown_signal c.args.bytes.now d)) c.items-signal-items.ensures
