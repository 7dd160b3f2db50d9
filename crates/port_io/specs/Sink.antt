-- What a write to a sink of bytes does, in the terms of POSIX `write`: the first bytes of a piece, or none and an error.
use Rattle.std.specs.Prelude.{◌≡◌, ℕ, ◌<◌, ◌≤◌, List, length, take, Option, Result, IfOk, MatchResult}
use Rattle.std.specs.Io.KnownBytes.{append_known}

-- `Ok(n)` took one byte of the piece at least, and no more than it has
abbrev pub TakesSome : {E : Type 0} → Result ℕ E → List ℕ → Type 0
TakesSome result piece = IfOk result (λ n. (1 ≤ n) × (n ≤ length piece))

-- `Ok(n)` appends the first n bytes of the piece; an error appends none
abbrev pub Writes : {E : Type 0} → Option (List ℕ) → Option (List ℕ) → Result ℕ E → List ℕ → Type 0
Writes before now result piece =
    MatchResult result (λ n. now ≡ append_known before (take n piece)) (λ _. now ≡ before)

-- Ok appends the whole piece, and an error a part of it that leaves some of it out
abbrev pub WritesPiece : {T E : Type 0} → Option (List ℕ) → Option (List ℕ) → Result T E → List ℕ → Type 0
WritesPiece before now result piece = MatchResult result
    (λ _. now ≡ append_known before piece)
    (λ _. (n : ℕ) × (n < length piece) × (now ≡ append_known before (take n piece)))
