use Rattle.std.proofs.Common.{◌≡◌}
use Rattle.printing_tests.proofs.records.records_of.Given as goal

abbrev pub invariant-loop-row : goal.invariant-loop-row
invariant-loop-row l = l.decoder.bus ≡ 0
