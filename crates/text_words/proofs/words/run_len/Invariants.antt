use Rattle.std.proofs.Common.{◌≡◌, ℕ, ◌<◌, get_or}
use Rattle.text_words.specs.Words.{is_blank}
use Rattle.text_words.proofs.words.run_len.Given as goal

-- the bytes so far are all blanks, or none of them is
abbrev pub invariant-loop-i : goal.invariant-loop-i
invariant-loop-i l = (k : ℕ) → k < l.i → is_blank (get_or l.bytes k 0) ≡ l.blank
