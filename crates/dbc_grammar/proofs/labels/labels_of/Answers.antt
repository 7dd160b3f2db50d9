use Rattle.std.proofs.Common.{◌∙◌, ap, ◌++◌, []}
use Rattle.std.specs.Borrow.{Bor}
use Rattle.dbc_grammar.specs.declared.statement.Note.{Note}
use Rattle.dbc_grammar.specs.Gather.{labels_in}
use Rattle.dbc_grammar.proofs.ListLaws.{appended_more, flat_map-seen, all_taken_from}
use Rattle.dbc_grammar.proofs.labels.labels_of.Goals as goal

pub loop-note-preserved : goal.loop-note-preserved
loop-note-preserved c =
    let said = λ (n : Bor Note). labels_in c.args.bytes.now c.args.utf8 n.now in
    appended_more said c.args.notes.now c.loop-note.note-index c.note-item.result [] c.loop-note.labels.items c.push_note_labels.new.labels.items
    c.loop-note-test.true c.loop-note.invariant
    (c.in_ok-push_note_labels.ensures ∙ ap (λ n. c.loop-note.labels.items ++ said n) c.note-item.is)

pub returns : goal.returns
returns c =
    let said = λ (n : Bor Note). labels_in c.args.bytes.now c.args.utf8 n.now in
    all_taken_from said c.args.notes.now c.loop-note.note-index [] c.loop-note.labels.items c.loop-note-test.false c.loop-note.invariant
    ∙ flat_map-seen (labels_in c.args.bytes.now c.args.utf8) c.args.notes.now
