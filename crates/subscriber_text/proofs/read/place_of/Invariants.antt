use Rattle.std.proofs.Common.{◌≡◌, ℕ, ◌<◌, get_or, [], false}
use Rattle.std.specs.Str.{bytes_eq}
use Rattle.subscriber_text.proofs.read.place_of.Given as goal

-- none of the names so far is the bus's
abbrev pub invariant-loop-i : goal.invariant-loop-i
invariant-loop-i l = (k : ℕ) → k < l.i → bytes_eq (get_or l.names k []) l.bus ≡ false
