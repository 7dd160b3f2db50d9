use Rattle.std.proofs.Common.{ap, not, sym}
use Rattle.std.proofs.lemmas.Bool.{lt-ltb, le-ltb}
use Rattle.bench_model.specs.declared.fault.CheckWhy.TheVariants.{Size}
use Rattle.bench_model.specs.Limits.{longest_message}
use Rattle.bench_model.proofs.CheckLaws.{message_breaks_it, signal_breaks_it, message_keeps}
use Rattle.bench_model.proofs.sizes.check_size.Goals as goal

pub returns-then-message-gt-LONGEST_MESSAGE : goal.returns-then-message-gt-LONGEST_MESSAGE
returns-then-message-gt-LONGEST_MESSAGE c = λ ms i.
    rw c.message_fault.ensures
    (message_breaks_it Size ms i c.args.message.now
    (lt-ltb longest_message _ c.if-message-gt-LONGEST_MESSAGE.true))

pub returns-then-not-is_sized : goal.returns-then-not-is_sized
returns-then-not-is_sized c = λ ms i.
    signal_breaks_it Size ms i c.args.message.now c.items-signal-items.result.now c.loop-signal.signal-index
    c.signal-item.result c.signal_fault.result
    c.items-signal-items.ensures
    (le-ltb longest_message _ c.if-message-gt-LONGEST_MESSAGE.false) c.loop-signal.invariant
    c.loop-signal-test.true c.signal-item.is
    (sym (ap not c.if-not-is_sized.ensures)) c.signal_fault.ensures

pub returns : goal.returns
returns c = λ ms i.
    message_keeps Size ms i c.args.message.now c.items-signal-items.result.now c.loop-signal.signal-index
    c.items-signal-items.ensures
    (le-ltb longest_message _ c.if-message-gt-LONGEST_MESSAGE.false) c.loop-signal.invariant
    c.loop-signal-test.false
