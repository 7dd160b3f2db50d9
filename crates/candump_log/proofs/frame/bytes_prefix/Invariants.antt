use Rattle.std.proofs.Common.{◌≡◌, ◌-◌, true, length}
use Rattle.std.specs.Prelude.{◌==◌}
use Rattle.candump_log.specs.LineOf.{bytes_prefix}
use Rattle.candump_log.proofs.DataLaws.{behind}
use Rattle.candump_log.proofs.frame.bytes_prefix.Given as goal

abbrev pub invariant-loop-i : goal.invariant-loop-i
invariant-loop-i l = record {
  count : length l.payload ≡ l.i;
  whole : behind l.payload (bytes_prefix (l.limit - l.i) (l.i == 0) l.rest) ≡ bytes_prefix l.limit true l.fn.bytes;
}
