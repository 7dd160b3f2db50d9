use Rattle.std.proofs.Common.{refl}
use Rattle.bench_model.specs.declared.fault.CheckWhy.TheVariants.{DuplicateSignal}
use Rattle.bench_model.proofs.CheckLaws.{message_has_it, messages_keep, passed_on}
use Rattle.bench_model.proofs.duplicates.check_names.Goals as goal

pub returns-in_err-check_names_of : goal.returns-in_err-check_names_of
returns-in_err-check_names_of c =
    passed_on c.from_residual.result c.in_err-check_names_of.field-0.0 _ c.from_residual.ensures.1
    (message_has_it DuplicateSignal c.args.messages.now c.loop-message.message-index c.message-item.result
    c.in_err-check_names_of.field-0.0 refl
    c.loop-message.invariant c.loop-message-test.true c.message-item.is
    (c.in_err-check_names_of.ensures c.args.messages.now c.loop-message.message-index))

pub returns : goal.returns
returns c = messages_keep DuplicateSignal c.args.messages.now c.loop-message.message-index refl
    c.loop-message.invariant c.loop-message-test.false
