-- What a call that reads a file whole has taken, and what it answers.
use Rattle.std.specs.Prelude.{◌≡◌, ℕ, ◌<◌, ◌≤◌, ◌↔◌, List, length, Result, IfOk, OnOk, IsErrOf, Vec}
use Rattle.std.specs.declared.alloc.Global.{Global}

-- what a call that took these bytes may answer: Ok with all of them, no more than `limit`, and `long` exactly where they are more
pub record AnswersTaken {E : Type 0} (limit : ℕ) (moved : List ℕ) (long : E) (result : Result (Vec ℕ Global) E) : Type 0 where
  pub bytes : IfOk result (λ bytes. bytes.items ≡ moved)
  pub within : OnOk result (length moved ≤ limit)
  pub too_long : IsErrOf result long ↔ (limit < length moved)
