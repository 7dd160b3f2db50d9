use Rattle.std.proofs.Common.{List, subst}
use Rattle.bench_model.specs.declared.database.Database.{Database}
use Rattle.bench_model.specs.Limits.{IsMade}
use Rattle.dbc_grammar.specs.declared.statement.MessageForm.{MessageForm}
use Rattle.dbc_grammar.specs.Contract.{all_signals}
use Rattle.dbc_grammar.specs.Naming.{noted_in}
use Rattle.dbc_grammar.specs.Rows.{IsWideFault}
use Rattle.dbc_grammar.proofs.ErrorLaws.{same_error}
use Rattle.dbc_grammar.proofs.RowLaws.{rec-all}
use Rattle.dbc_grammar.proofs.MadeLaws.{messages_made}
use Rattle.dbc_grammar.proofs.DatabaseLaws.{read_of, rows_in, messages_in_place, treeless_in_place, database_read, rule_broken, treeless_read, too_wide_read}
use Rattle.dbc_grammar.proofs.read.build_database.Goals as goal

pub check_database-requires : goal.check_database-requires
check_database-requires c =
    let text = c.args.bytes.now in
    let utf8 = c.is_utf8-utf8.result in
    let forms = c.args.kept.messages.items in
    let noted = noted_in text c.args.kept.notes.items in
    let rows = rows_in text utf8 forms c.deref.result.now c.args.kept.notes.items c.deref-2.result.now c.in_ok-rows.rows.items
    c.deref.ensures.value c.deref-2.ensures.value c.in_ok-rows.ensures.ok in
    let are = messages_in_place text utf8 noted forms c.deref-3.result.now c.in_ok-rows.rows.items c.in_ok-messages.messages.items c.of.result
    c.deref-3.ensures.value c.of.ensures rows c.in_ok-messages.ensures.ok in
    rec-all IsMade c.of.result (messages_made text utf8 noted forms 0 forms c.of.result c.trees_of_marks.ensures.over are)

pub returns-clause-ok : goal.returns-clause-ok
returns-clause-ok c = λ tokens kept are_tokens.
    let text = c.args.bytes.now in
    let utf8 = c.is_utf8-utf8.result in
    let forms = c.args.kept.messages.items in
    let noted = noted_in text c.args.kept.notes.items in
    let rows = rows_in text utf8 forms c.deref.result.now c.args.kept.notes.items c.deref-2.result.now c.in_ok-rows.rows.items
    c.deref.ensures.value c.deref-2.ensures.value c.in_ok-rows.ensures.ok in
    let are = messages_in_place text utf8 noted forms c.deref-3.result.now c.in_ok-rows.rows.items c.in_ok-messages.messages.items c.of.result
    c.deref-3.ensures.value c.of.ensures rows c.in_ok-messages.ensures.ok in
    let d : Database = record { messages = c.of.result } in
    database_read text c.args.kept utf8 d c.check_database.result (read_of text tokens c.args.kept kept are_tokens) c.is_utf8-utf8.ensures are
    c.check_database.ensures.ok c.check_database.ensures.valid

pub returns-clause-fault : goal.returns-clause-fault
returns-clause-fault c = λ tokens kept are_tokens.
    let text = c.args.bytes.now in
    let utf8 = c.is_utf8-utf8.result in
    let forms = c.args.kept.messages.items in
    let noted = noted_in text c.args.kept.notes.items in
    let rows = rows_in text utf8 forms c.deref.result.now c.args.kept.notes.items c.deref-2.result.now c.in_ok-rows.rows.items
    c.deref.ensures.value c.deref-2.ensures.value c.in_ok-rows.ensures.ok in
    let are = messages_in_place text utf8 noted forms c.deref-3.result.now c.in_ok-rows.rows.items c.in_ok-messages.messages.items c.of.result
    c.deref-3.ensures.value c.of.ensures rows c.in_ok-messages.ensures.ok in
    let d : Database = record { messages = c.of.result } in
    rule_broken text c.args.kept utf8 d c.check_database.result (read_of text tokens c.args.kept kept are_tokens) c.is_utf8-utf8.ensures are
    c.check_database.ensures.fault

pub returns-in_err-messages-clause-fault : goal.returns-in_err-messages-clause-fault
returns-in_err-messages-clause-fault c = λ tokens kept are_tokens.
    let text = c.args.bytes.now in
    let utf8 = c.is_utf8-utf8.result in
    let forms = c.args.kept.messages.items in
    let noted = noted_in text c.args.kept.notes.items in
    let rows = rows_in text utf8 forms c.deref.result.now c.args.kept.notes.items c.deref-2.result.now c.in_ok-rows.rows.items
    c.deref.ensures.value c.deref-2.ensures.value c.in_ok-rows.ensures.ok in
    let fault = c.in_err-messages.field-0.0 in
    rw (same_error c.from_residual-in_err-messages.result fault c.from_residual-in_err-messages.ensures)
    (treeless_read text c.args.kept utf8 c.in_ok-rows.rows.items fault (read_of text tokens c.args.kept kept are_tokens) rows
    (treeless_in_place text utf8 noted forms c.deref-3.result.now c.in_ok-rows.rows.items fault
    c.deref-3.ensures.value rows c.in_err-messages.ensures.fault))

pub returns-in_err-rows-clause-fault : goal.returns-in_err-rows-clause-fault
returns-in_err-rows-clause-fault c = λ tokens kept are_tokens.
    let fault = c.in_err-rows.field-0.0 in
    rw (same_error c.from_residual.result fault c.from_residual.ensures)
    (too_wide_read c.args.bytes.now c.args.kept fault (read_of c.args.bytes.now tokens c.args.kept kept are_tokens)
    (subst (λ (fs : List MessageForm). IsWideFault c.args.bytes.now (all_signals fs) fault) c.deref.ensures.value c.in_err-rows.ensures.fault))
