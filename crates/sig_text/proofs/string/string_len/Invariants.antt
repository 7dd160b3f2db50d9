use Rattle.std.proofs.Common.{ℕ, ◌<◌}
use Rattle.sig_text.specs.Lexemes.{ClosesString}
use Rattle.sig_text.proofs.string.string_len.Given as goal

-- no quote before this place closes the string
abbrev pub invariant-loop-place : goal.invariant-loop-place
invariant-loop-place l = (k : ℕ) → k < l.place → ClosesString l.text k → ⊥
