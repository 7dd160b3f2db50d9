use Rattle.std.proofs.Common.{List, subst}
use Rattle.std.specs.List.{enumerate_from, AllZip}
use Rattle.std.proofs.lemmas.List.{take_all}
use Rattle.dbc_grammar.specs.declared.statement.MessageForm.{MessageForm}
use Rattle.dbc_grammar.specs.Contract.{IsMessageAt}
use Rattle.dbc_grammar.proofs.ErrorLaws.{same_error}
use Rattle.dbc_grammar.proofs.TreeLaws.{one_more_message, first_treeless}
use Rattle.dbc_grammar.proofs.read.messages_of.Goals as goal

pub returns-in_err-message_of-clause-fault : goal.returns-in_err-message_of-clause-fault
returns-in_err-message_of-clause-fault c = λ utf8 noted are.
    let fault = c.in_err-message_of.field-0.0 in
    rw (same_error c.from_residual.result fault c.from_residual.ensures)
    (first_treeless c.args.bytes.now utf8 noted c.args.forms.now c.loop-form.form-index c.form-item.result c.loop-form.messages.items
    c.loop-form.left.items c.pop_front.new.self.items c.in-Some.row fault c.loop-form-test.true c.form-item.is
    c.in-Some.ensures.items c.in_err-message_of.ensures.fault (c.loop-form.invariant utf8 noted are))

pub loop-form-preserved : goal.loop-form-preserved
loop-form-preserved c = λ utf8 noted are.
    one_more_message c.args.bytes.now utf8 noted c.args.forms.now c.loop-form.form-index c.form-item.result c.loop-form.messages.items
    c.push.new.self.items c.loop-form.left.items c.pop_front.new.self.items c.in-Some.row c.in_ok-message_of.field-0 c.loop-form-test.true c.form-item.is
    c.in-Some.ensures.items c.in_ok-message_of.ensures.ok c.in_ok-push.ensures.items (c.loop-form.invariant utf8 noted are)

pub returns-clause-ok : goal.returns-clause-ok
returns-clause-ok c = λ utf8 noted are.
    subst (λ (forms : List MessageForm). AllZip (IsMessageAt c.args.bytes.now utf8 noted c.args.forms.now) (enumerate_from 0 forms) c.loop-form.messages.items)
    (take_all c.loop-form.form-index c.args.forms.now c.loop-form-test.false) (c.loop-form.invariant utf8 noted are).messages
