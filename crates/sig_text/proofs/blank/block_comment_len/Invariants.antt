use Rattle.std.proofs.Common.{ℕ, ◌+◌, ◌<◌}
use Rattle.sig_text.specs.Blank.{ClosesComment}
use Rattle.sig_text.proofs.blank.block_comment_len.Given as goal

-- no end of the comment is before this place
abbrev pub invariant-loop-place : goal.invariant-loop-place
invariant-loop-place l = (k : ℕ) → k + 1 < l.place → ClosesComment l.text k → ⊥
