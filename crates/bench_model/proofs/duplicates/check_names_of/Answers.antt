use Rattle.std.proofs.Common.{refl}
use Rattle.bench_model.specs.declared.fault.CheckWhy.TheVariants.{DuplicateSignal}
use Rattle.bench_model.proofs.CheckLaws.{signals_go_on, signal_breaks_it, message_keeps}
use Rattle.bench_model.proofs.DuplicateLaws.{names_go_on, is_first, is_second}
use Rattle.bench_model.proofs.duplicates.check_names_of.Goals as goal

pub returns-then-not-branch : goal.returns-then-not-branch
returns-then-not-branch c = λ ms i.
    let loop = c.loop-signal in
    let s = c.signal-item.result in
    signal_breaks_it DuplicateSignal ms i c.args.message.now c.items-signal-items.result.now loop.signal-index
    s c.signal_fault.result
    c.items-signal-items.ensures refl loop.invariant.keep c.loop-signal-test.true c.signal-item.is
    (is_second _ _ _ c.in_ok-add_name.ensures.new c.if-not-branch.true (loop.invariant.seen.each s.name))
    c.signal_fault.ensures

pub loop-signal-preserved : goal.loop-signal-preserved
loop-signal-preserved c =
    let loop = c.loop-signal in
    let s = c.signal-item.result in
    let ss = c.items-signal-items.result.now in
    record {
      keep = signals_go_on DuplicateSignal c.args.message.now ss loop.signal-index s
          c.items-signal-items.ensures loop.invariant.keep
          c.loop-signal-test.true c.signal-item.is
          (is_first _ _ _ c.in_ok-add_name.ensures.new c.if-not-branch.false
          (loop.invariant.seen.each s.name));
      seen = names_go_on loop.seen c.add_name.new.seen ss c.args.message.now.signals loop.signal-index s
          c.items-signal-items.ensures
          loop.invariant.seen c.loop-signal-test.true c.signal-item.is c.in_ok-add_name.ensures.added;
    }

pub returns : goal.returns
returns c = λ ms i.
    message_keeps DuplicateSignal ms i c.args.message.now c.items-signal-items.result.now
    c.loop-signal.signal-index c.items-signal-items.ensures refl
    c.loop-signal.invariant.keep c.loop-signal-test.false
