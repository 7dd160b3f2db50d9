use Rattle.std.proofs.Common.{refl, Some, None}
use Rattle.bench_model.specs.declared.fault.CheckWhy.TheVariants.{DuplicateMessage}
use Rattle.bench_model.specs.declared.fault.CheckFault.TheVariants.{At}
use Rattle.bench_model.proofs.CheckLaws.{messages_go_on, message_breaks_it, message_has_it, messages_keep}
use Rattle.bench_model.proofs.DuplicateLaws.{keys_go_on, is_first, is_second, key_is_new}
use Rattle.bench_model.proofs.duplicates.check_keys.Goals as goal

pub returns-then-not-branch : goal.returns-then-not-branch
returns-then-not-branch c =
    let loop = c.loop-message in
    let m = c.message-item.result in
    rw c.message_fault.ensures
    (message_has_it DuplicateMessage c.args.messages.now loop.message-index m
    (At DuplicateMessage (Some m.key) None) refl loop.invariant.keep c.loop-message-test.true
    c.message-item.is
    (message_breaks_it DuplicateMessage c.args.messages.now loop.message-index m
    (is_second _ _ _ c.in_ok-add_key.ensures.new c.if-not-branch.true (loop.invariant.seen.each m.key))))

pub loop-message-preserved : goal.loop-message-preserved
loop-message-preserved c =
    let loop = c.loop-message in
    let m = c.message-item.result in
    record {
      keep = messages_go_on DuplicateMessage c.args.messages.now loop.message-index m loop.invariant.keep
          c.loop-message-test.true c.message-item.is
          (key_is_new c.args.messages.now loop.message-index m
          (is_first _ _ _ c.in_ok-add_key.ensures.new c.if-not-branch.false
          (loop.invariant.seen.each m.key)));
      seen = keys_go_on loop.seen c.add_key.new.seen c.args.messages.now loop.message-index m
          loop.invariant.seen c.loop-message-test.true
          c.message-item.is c.in_ok-add_key.ensures.added;
    }

pub returns : goal.returns
returns c = messages_keep DuplicateMessage c.args.messages.now c.loop-message.message-index refl
    c.loop-message.invariant.keep c.loop-message-test.false
