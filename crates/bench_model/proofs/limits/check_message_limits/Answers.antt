use Rattle.std.proofs.Common.{sym}
use Rattle.bench_model.specs.declared.fault.CheckWhy.TheVariants.{Limit}
use Rattle.bench_model.proofs.CheckLaws.{message_breaks_it, signal_breaks_it, message_keeps}
use Rattle.bench_model.proofs.limits.check_message_limits.Goals as goal

pub returns-then-breaks_limits : goal.returns-then-breaks_limits
returns-then-breaks_limits c = λ ms i.
    rw c.message_fault.ensures
    (message_breaks_it Limit ms i c.args.message.now (sym c.if-breaks_limits.ensures))

pub returns-then-signal_breaks_limits : goal.returns-then-signal_breaks_limits
returns-then-signal_breaks_limits c = λ ms i.
    signal_breaks_it Limit ms i c.args.message.now c.items-signal-items.result.now c.loop-place.place
    c.signal-item.result c.signal_fault.result
    c.items-signal-items.ensures
    (sym c.if-breaks_limits.ensures) c.loop-place.invariant c.loop-place-test.true c.signal-item.is
    (sym c.if-signal_breaks_limits.ensures) c.signal_fault.ensures

pub returns : goal.returns
returns c = λ ms i.
    message_keeps Limit ms i c.args.message.now c.items-signal-items.result.now c.loop-place.place
    c.items-signal-items.ensures
    (sym c.if-breaks_limits.ensures) c.loop-place.invariant c.loop-place-test.false
