use Rattle.std.proofs.Common.{◌∙◌, ap, ◌++◌}
use Rattle.std.specs.Borrow.{Bor}
use Rattle.dbc_grammar.specs.declared.statement.Note.{Note}
use Rattle.dbc_grammar.specs.Gather.{links_in}
use Rattle.dbc_grammar.specs.Places.{signal_place}
use Rattle.dbc_grammar.proofs.ListLaws.{appended_more, flat_map-seen, all_taken_from}
use Rattle.dbc_grammar.proofs.labels.push_links.Goals as goal

pub loop-note-preserved : goal.loop-note-preserved
loop-note-preserved c =
    let said = λ (n : Bor Note). links_in c.args.bytes.now (signal_place c.args.places.now.places) c.args.child n.now in
    appended_more said c.args.notes.now c.loop-note.note-index c.note-item.result c.args.links.now.items c.loop-note.links.items c.push_link.new.links.items
    c.loop-note-test.true c.loop-note.invariant
    (c.in_ok-push_link.ensures ∙ ap (λ n. c.loop-note.links.items ++ said n) c.note-item.is)

pub returns : goal.returns
returns c =
    let one = links_in c.args.bytes.now (signal_place c.args.places.now.places) c.args.child in
    all_taken_from (λ (n : Bor Note). one n.now) c.args.notes.now c.loop-note.note-index c.args.links.now.items c.loop-note.links.items
    c.loop-note-test.false c.loop-note.invariant
    ∙ ap (λ l. c.args.links.now.items ++ l) (flat_map-seen one c.args.notes.now)
