use Rattle.dbc_grammar.specs.Gather.{labels_of_text}
use Rattle.dbc_grammar.proofs.ListLaws.{appended_more}
use Rattle.dbc_grammar.proofs.labels.push_labels.Goals as goal

pub loop-value-preserved : goal.loop-value-preserved
loop-value-preserved c =
    appended_more (labels_of_text c.args.bytes.now c.args.utf8) c.args.texts.now c.loop-value.value-index _ c.args.labels.now.items
    c.loop-value.labels.items c.push_label.new.labels.items c.loop-value-test.true c.loop-value.invariant c.in_ok-push_label.ensures
