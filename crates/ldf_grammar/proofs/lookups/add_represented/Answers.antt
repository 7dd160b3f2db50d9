use Rattle.std.proofs.Common.{ap, ◌∷◌}
use Rattle.ldf_grammar.specs.Gather.{stated}
use Rattle.ldf_grammar.proofs.StepLaws.{stated_step, own_default}
use Rattle.ldf_grammar.proofs.LookupLaws.{adds_more}
use Rattle.ldf_grammar.proofs.lookups.add_represented.Goals as goal

pub loop-signal-preserved : goal.loop-signal-preserved
loop-signal-preserved c =
    adds_more c.args.firsts.now c.loop-signal.firsts c.add_value-in-loop-signal.new.firsts _ _ _ c.loop-signal.invariant c.in_ok-add_value-2.ensures
    (ap (λ pairs. stated c.args.bytes.now c.args.line.now.encoding c.args.line.now.first ∷ pairs) (stated_step c.args.bytes.now c.args.line.now.encoding c.items-signal-items.result.now c.loop-signal.signal-index _ _ c.loop-signal-test.true (own_default c.items-signal-items.result.now c.loop-signal.signal-index _ c.loop-signal-test.true) c.token_text-in-loop-signal.ensures))
