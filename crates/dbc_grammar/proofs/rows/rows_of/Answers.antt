use Rattle.std.proofs.Common.{◌≡◌, ◌∙◌, ap, take}
use Rattle.dbc_grammar.specs.Naming.{noted_in, is_place, is_first_message}
use Rattle.dbc_grammar.specs.Noted.{notes_seen}
use Rattle.dbc_grammar.specs.Places.{message_place}
use Rattle.dbc_grammar.proofs.ErrorLaws.{same_error}
use Rattle.dbc_grammar.proofs.RowLaws.{same_noted, row_with, rows_go_on}
use Rattle.dbc_grammar.proofs.WideLaws.{rows_scaled, message_is_first_in}
use Rattle.dbc_grammar.proofs.rows.rows_of.Goals as goal

pub loop-place-preserved : goal.loop-place-preserved
loop-place-preserved c =
    let text = c.args.bytes.now in
    let messages = c.args.messages.now in
    let i = c.loop-place.place in
    let m = c.index-messages-place.result in
    let noted = noted_in text c.args.notes.now in
    let notes = same_noted (notes_seen c.in_ok-index.index.notes) noted (λ k n. c.in_ok-index.ensures k n) in
    let named : c.is_first-named.result ≡ is_first_message messages i m =
    c.is_first-named.ensures ∙ ap (λ k. is_place i (message_place c.in_ok-places.places.places k)) c.key_of.ensures
    ∙ ap (is_place i) (c.in_ok-places.ensures _) in
    rows_go_on text c.args.utf8 noted messages i m c.loop-place.rows.items c.push_back.new.self.items c.in_ok-row_of.field-0
    c.loop-place-test.true c.index-messages-place.is
    (row_with text c.args.utf8 (notes_seen c.in_ok-index.index.notes) noted c.is_first-named.result (is_first_message messages i m) m c.in_ok-row_of.field-0
    notes named c.in_ok-row_of.ensures.ok)
    c.loop-place.invariant c.in_ok-push_back.ensures.items

pub returns-in_err-row_of-clause-fault : goal.returns-in_err-row_of-clause-fault
returns-in_err-row_of-clause-fault c =
    let fault = c.in_err-row_of.field-0.0 in
    rw (same_error c.from_residual-in_err-row_of.result fault c.from_residual-in_err-row_of.ensures)
    (message_is_first_in c.args.bytes.now c.args.messages.now c.loop-place.place c.index-messages-place.result fault
    c.loop-place-test.true c.index-messages-place.is
    (rows_scaled c.args.bytes.now c.args.utf8 (noted_in c.args.bytes.now c.args.notes.now) c.args.messages.now 0
    (take c.loop-place.place c.args.messages.now) c.loop-place.rows.items c.loop-place.invariant) c.in_err-row_of.ensures.fault)
