use Rattle.std.proofs.Common.{◌∙◌, sym, arith}
use Rattle.image_compiler.proofs.WritingLaws.{signals_more, signals_none}
use Rattle.image_compiler.proofs.signals.write_signals.Goals as goal

pub loop-i-preserved : goal.loop-i-preserved
loop-i-preserved c =
    sym (signals_more c.args.signals.now c.args.parents.now c.loop-i.i c.loop-i.place c.loop-i.ranges c.in_ok-place.place c.in_ok-ranges.ranges
    c.index-signals-i.result c.index-parents-i.result c.loop-i.out.items c.write_signal.new.out.items
    (omega (arith, c.loop-i-test.true, c.min-i-end.ensures)) (omega (arith, c.loop-i-test.true, c.min-i-end.ensures)) c.index-signals-i.is c.index-parents-i.is
    c.in_ok-write_signal.ensures (omega (arith, c.in_ok-place.ensures, c.in_ok-behind.ensures.size)) (omega (arith, c.in_ok-ranges.ensures, c.in_ok-taken.ensures.size)))
    ∙ c.loop-i.invariant

pub returns : goal.returns
returns c =
    signals_none c.args.signals.now c.args.parents.now c.loop-i.i c.loop-i.place c.loop-i.ranges c.loop-i.out.items (omega (arith, c.loop-i-test.false, c.min-i-end.ensures))
    ∙ c.loop-i.invariant
