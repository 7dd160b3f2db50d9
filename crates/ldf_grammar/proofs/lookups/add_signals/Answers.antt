use Rattle.ldf_grammar.proofs.StepLaws.{line_step, own_default}
use Rattle.ldf_grammar.proofs.LookupLaws.{adds_nothing, adds_more}
use Rattle.ldf_grammar.proofs.lookups.add_signals.Goals as goal

pub loop-line-init : goal.loop-line-init
loop-line-init c = adds_nothing c.args.firsts.now

pub loop-line-preserved : goal.loop-line-preserved
loop-line-preserved c =
    adds_more c.args.firsts.now c.loop-line.firsts c.add_value.new.firsts _ _ _ c.loop-line.invariant c.in_ok-add_value.ensures
    (line_step c.args.bytes.now c.args.lines.now c.loop-line.line-index _ _ c.loop-line-test.true (own_default c.args.lines.now c.loop-line.line-index _ c.loop-line-test.true) c.token_text.ensures)
