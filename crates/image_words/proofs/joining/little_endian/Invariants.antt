use Rattle.std.proofs.Common.{◌≡◌, ◌≤◌, drop, length}
use Rattle.bench_model.specs.Shifts.{little_endian}
use Rattle.image_words.proofs.joining.little_endian.Given as goal

-- the bytes from i on are joined
abbrev pub invariant-loop-i : goal.invariant-loop-i
invariant-loop-i l = record { within : l.i ≤ length l.bytes; number : l.number ≡ little_endian (drop l.i l.bytes) }

abbrev pub decreases-loop-i : goal.decreases-loop-i
decreases-loop-i l = l.i
