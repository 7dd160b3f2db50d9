use Rattle.ldf_grammar.specs.Gather.{signals_in}
use Rattle.ldf_grammar.proofs.StepLaws.{flat_step}
use Rattle.ldf_grammar.proofs.LookupLaws.{firsts_begin, firsts_go_on}
use Rattle.ldf_grammar.proofs.lookups.signal_lines.Goals as goal

pub loop-statement-init : goal.loop-statement-init
loop-statement-init c = firsts_begin c.new-firsts.result c.new-firsts.ensures.empty

pub loop-statement-preserved : goal.loop-statement-preserved
loop-statement-preserved c =
    firsts_go_on c.loop-statement.firsts c.add_defined.new.firsts _ _ _ c.loop-statement.invariant c.in_ok-add_defined.ensures
    (flat_step (signals_in c.args.bytes.now) c.args.statements.now c.loop-statement.statement-index c.statement-item.result c.loop-statement-test.true c.statement-item.is)
