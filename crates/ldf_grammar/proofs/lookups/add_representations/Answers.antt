use Rattle.ldf_grammar.specs.Gather.{stated_by}
use Rattle.ldf_grammar.proofs.StepLaws.{flat_step}
use Rattle.ldf_grammar.proofs.LookupLaws.{adds_nothing, adds_more}
use Rattle.ldf_grammar.proofs.lookups.add_representations.Goals as goal

pub loop-line-init : goal.loop-line-init
loop-line-init c = adds_nothing c.args.firsts.now

pub loop-line-preserved : goal.loop-line-preserved
loop-line-preserved c =
    adds_more c.args.firsts.now c.loop-line.firsts c.add_represented.new.firsts _ _ _ c.loop-line.invariant c.in_ok-add_represented.ensures
    (flat_step (stated_by c.args.bytes.now) c.args.lines.now c.loop-line.line-index c.line-item.result c.loop-line-test.true c.line-item.is)
