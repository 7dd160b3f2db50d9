use Rattle.std.proofs.Common.{◌≡◌, ◌++◌, drop}
use Rattle.image_compiler.specs.Layout.{ranges_words}
use Rattle.image_compiler.proofs.signals.write_ranges.Given as goal

abbrev pub invariant-loop-range : goal.invariant-loop-range
invariant-loop-range l = l.out.items ++ ranges_words (drop l.range-index l.ranges) ≡ l.fn.out.items ++ ranges_words l.ranges
