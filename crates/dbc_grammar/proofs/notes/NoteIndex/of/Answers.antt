use Rattle.std.proofs.Common.{◌∙◌, ap, ◌++◌, ◌∷◌, []}
use Rattle.std.specs.Prelude.{filter}
use Rattle.dbc_grammar.specs.Naming.{names_signal}
use Rattle.dbc_grammar.specs.Noted.{notes_seen}
use Rattle.dbc_grammar.specs.declared.statement.Note.{Note}
use Rattle.dbc_grammar.proofs.NoteLaws.{filtered_more}
use Rattle.dbc_grammar.proofs.notes.NoteIndex.of.Goals as goal

pub loop-note-preserved : goal.loop-note-preserved
loop-note-preserved c = λ k n.
    let names = names_signal c.args.bytes.now k n in
    let before = notes_seen c.loop-note.index.notes k n in
    filtered_more names c.args.notes.now c.loop-note.note-index c.note-item.result before (notes_seen c.add_named.new.self.notes k n)
    c.loop-note-test.true (c.loop-note.invariant k n)
    (c.in_ok-add_named.ensures k n ∙ ap (λ (x : Note). before ++ filter names (x ∷ [])) c.note-item.is)
