use Rattle.std.proofs.Common.{◌≡◌, ℕ, ◌<◌, get_or, true}
use Rattle.candump_log.specs.Line.{is_blank}
use Rattle.candump_log.proofs.blanks.blank_len.Given as goal

abbrev pub invariant-loop-i : goal.invariant-loop-i
invariant-loop-i l = (k : ℕ) → k < l.i → is_blank (get_or l.bytes k 0) ≡ true
