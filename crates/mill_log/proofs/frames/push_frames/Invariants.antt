use Rattle.std.proofs.Common.{◌≡◌, ℕ, ◌+◌, ◌++◌, List}
use Rattle.mill_log.specs.GeneratedLog.{number_at, log_from}
use Rattle.mill_log.proofs.frames.push_frames.Given as goal

abbrev pub invariant-loop-k : goal.invariant-loop-k
invariant-loop-k l = record {
  next : (seed : ℕ) → l.fn.x ≡ number_at seed l.fn.first → l.number ≡ number_at seed (l.fn.first + l.k);
  lines : (seed : ℕ) → l.fn.x ≡ number_at seed l.fn.first → l.out.items ≡ l.fn.out.items ++ log_from seed l.fn.first l.k;
}
