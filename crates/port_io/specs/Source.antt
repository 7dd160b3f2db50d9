-- What one read of a source of bytes does, in the terms of POSIX `read`: some of the bytes left, or 0 at their end.
use Rattle.std.specs.Prelude.{◌≡◌, ℕ, List, [], take, Bool, true, ◌==◌, if◌then◌else◌, ◌↔◌, Option, IfSome, Result, Ok, Err, IfOk, MatchResult}
use Rattle.std.specs.Io.KnownBytes.{prepend_known, append_known}

-- `Ok(n)` gives the first n bytes left, which are left no more; an error leaves them all
abbrev pub ReadsFrom : {E : Type 0} → Option (List ℕ) → Option (List ℕ) → Result ℕ E → List ℕ → Type 0
ReadsFrom before now result buf =
    MatchResult result (λ n. before ≡ prepend_known (take n buf) now) (λ _. now ≡ before)

-- `Ok(0)` comes exactly where nothing is left, where that is known
abbrev pub SaysEnd : {E : Type 0} → Option (List ℕ) → Result ℕ E → Type 0
SaysEnd before result = IfOk result (λ n. IfSome before (λ bytes. (n ≡ 0) ↔ (bytes ≡ [])))

-- `Ok(n)` appends those n bytes to the ones taken; an error appends none
abbrev pub Takes : {E : Type 0} → Option (List ℕ) → Option (List ℕ) → Result ℕ E → List ℕ → Type 0
Takes before now result buf =
    MatchResult result (λ n. now ≡ append_known before (take n buf)) (λ _. now ≡ before)

-- whether a read has answered `Ok(0)`, this one or one before
abbrev pub ended_after : {E : Type 0} → Bool → Result ℕ E → Bool
ended_after ended (Ok n) = if n == 0 then true else ended
ended_after ended (Err _) = ended
