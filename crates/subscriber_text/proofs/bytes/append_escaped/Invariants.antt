use Rattle.std.proofs.Common.{◌≡◌, ◌<◌, ◌≤◌, ℕ, ◌++◌, take, get_or, true}
use Rattle.subscriber_text.specs.Plain.{is_plain, escaped}
use Rattle.subscriber_text.proofs.bytes.append_escaped.Given as goal

-- the bytes before `start` were appended, and those from there on are plain so far
abbrev pub invariant-loop-i : goal.invariant-loop-i
invariant-loop-i l = (l.start ≤ l.i) × ((l.out.items ≡ l.fn.out.items ++ escaped (take l.start l.text)) × ((k : ℕ) → l.start ≤ k → k < l.i → is_plain (get_or l.text k 0) ≡ true))
