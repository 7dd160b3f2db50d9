use Rattle.std.proofs.Common.{◌∙◌, sym, ap, take, ◌++◌, ◌∷◌, [], false}
use Rattle.std.specs.Borrow.{Bor}
use Rattle.std.proofs.lemmas.List.{take_more}
use Rattle.dbc_grammar.specs.declared.statement.Note.{Note}
use Rattle.dbc_grammar.specs.Gather.{float_said, float_after}
use Rattle.dbc_grammar.specs.Noted.{seen_notes}
use Rattle.dbc_grammar.proofs.ListLaws.{float_more}
use Rattle.dbc_grammar.proofs.labels.is_float.Goals as goal

pub loop-note-preserved : goal.loop-note-preserved
loop-note-preserved c =
    let notes = c.args.notes.now in
    let i = c.loop-note.note-index in
    c.float_said-float.ensures
    ∙ ap (λ f. float_said f c.note-item.result.now.says) c.loop-note.invariant
    ∙ sym (float_more false (take i notes) c.note-item.result)
    ∙ ap (λ (n : Bor Note). float_after false (seen_notes (take i notes ++ n ∷ []))) c.note-item.is
    ∙ ap (λ l. float_after false (seen_notes l)) (sym (take_more notes i c.note-item.result c.loop-note-test.true))
