use Rattle.std.proofs.lemmas.Bool.{lt-ltb, le-ltb}
use Rattle.bench_model.specs.declared.fault.CheckWhy.TheVariants.{Limit}
use Rattle.bench_model.specs.Limits.{most_messages}
use Rattle.bench_model.proofs.CheckLaws.{database_breaks_it, database_keeps, message_has_it, messages_keep, passed_on}
use Rattle.bench_model.proofs.limits.check_limits.Goals as goal

pub returns-then-messages-gt-MOST_MESSAGES : goal.returns-then-messages-gt-MOST_MESSAGES
returns-then-messages-gt-MOST_MESSAGES c =
    database_breaks_it c.args.messages.now (lt-ltb most_messages _ c.if-messages-gt-MOST_MESSAGES.true)

pub returns-in_err-check_message_limits : goal.returns-in_err-check_message_limits
returns-in_err-check_message_limits c =
    passed_on c.from_residual.result c.in_err-check_message_limits.field-0.0 _ c.from_residual.ensures.1
    (message_has_it Limit c.args.messages.now c.loop-message.message-index c.message-item.result
    c.in_err-check_message_limits.field-0.0
    (database_keeps c.args.messages.now (le-ltb most_messages _ c.if-messages-gt-MOST_MESSAGES.false))
    c.loop-message.invariant c.loop-message-test.true
    c.message-item.is (c.in_err-check_message_limits.ensures c.args.messages.now
    c.loop-message.message-index))

pub returns : goal.returns
returns c =
    messages_keep Limit c.args.messages.now c.loop-message.message-index
    (database_keeps c.args.messages.now (le-ltb most_messages _ c.if-messages-gt-MOST_MESSAGES.false))
    c.loop-message.invariant c.loop-message-test.false
