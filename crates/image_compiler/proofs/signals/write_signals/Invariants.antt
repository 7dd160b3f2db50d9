use Rattle.std.proofs.Common.{◌≡◌, ◌++◌, drop}
use Rattle.image_compiler.specs.Layout.{signal_rows}
use Rattle.image_compiler.proofs.signals.write_signals.Given as goal

abbrev pub invariant-loop-i : goal.invariant-loop-i
invariant-loop-i l =
    l.out.items ++ signal_rows l.place l.ranges (drop l.i l.signals) (drop l.i l.parents) ≡ l.fn.out.items ++ signal_rows l.first l.first_ranges l.signals l.parents
