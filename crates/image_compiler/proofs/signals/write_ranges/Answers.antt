use Rattle.std.proofs.Common.{◌∙◌, sym}
use Rattle.image_compiler.proofs.WritingLaws.{ranges_more, ranges_none}
use Rattle.image_compiler.proofs.signals.write_ranges.Goals as goal

pub loop-range-preserved : goal.loop-range-preserved
loop-range-preserved c =
    sym (ranges_more c.args.ranges.now c.loop-range.range-index _ c.loop-range.out.items c.write_range.new.out.items c.loop-range-test.true c.in_ok-write_range.ensures)
    ∙ c.loop-range.invariant

pub returns : goal.returns
returns c = ranges_none c.args.ranges.now c.loop-range.range-index c.loop-range.out.items c.loop-range-test.false ∙ c.loop-range.invariant
