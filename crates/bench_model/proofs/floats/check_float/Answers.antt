use Rattle.std.proofs.Common.{refl}
use Rattle.bench_model.specs.declared.fault.CheckWhy.TheVariants.{Float}
use Rattle.bench_model.proofs.CheckLaws.{signal_breaks_it, message_keeps}
use Rattle.bench_model.proofs.floats.check_float.Goals as goal

pub returns-then-signal : goal.returns-then-signal
returns-then-signal c = λ ms i.
    signal_breaks_it Float ms i c.args.message.now c.items-signal-items.result.now c.loop-signal.signal-index
    c.signal-item.result c.signal_fault.result
    c.items-signal-items.ensures refl c.loop-signal.invariant c.loop-signal-test.true c.signal-item.is
    c.if-signal.true c.signal_fault.ensures

pub returns : goal.returns
returns c = λ ms i.
    message_keeps Float ms i c.args.message.now c.items-signal-items.result.now c.loop-signal.signal-index
    c.items-signal-items.ensures refl
    c.loop-signal.invariant c.loop-signal-test.false
