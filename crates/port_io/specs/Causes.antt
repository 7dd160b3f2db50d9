-- Counts of faults: a call that answers a fault has raised its object's count.
use Rattle.std.specs.Prelude.{ℕ, ◌+◌, ◌-◌, ◌^◌, ◌≤◌, min, max, Result, OnErr}

-- a count rose by one at least, or is at the end of 64 bits
abbrev pub Rose : ℕ → ℕ → Type 0
Rose before now = min (before + 1) (2 ^ 64 - 1) ≤ now

-- a count never falls, and an error comes only where it rose
pub record HasCause {T E : Type 0} (before now : ℕ) (result : Result T E) : Type 0 where
  pub later : before ≤ now
  pub failed : OnErr result (Rose before now)

-- a count never falls, and this answer comes only where it rose
pub record Explains (before now : ℕ) (answer : Type 0) : Type 0 where
  pub later : before ≤ now
  pub cause : answer → Rose before now

-- a count after one rise; at the end of 64 bits it stays as it is
abbrev pub raised : ℕ → ℕ
raised count = max count (min (count + 1) (2 ^ 64 - 1))
