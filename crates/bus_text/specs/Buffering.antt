-- Text on its way to a sink through a buffer: nothing of it is lost, whatever the sink answers.
use Rattle.std.specs.Prelude.{◌≡◌, ℕ, ◌≤◌, List, [], ◌++◌, Option, Result, OnOk, IfErr}
use Rattle.std.specs.Io.KnownBytes.{append_known}
use Rattle.port_io.specs.Causes.{Rose}
use Rattle.subscriber_text.specs.declared.fault.PrintRefused.{PrintRefused}
use Rattle.subscriber_text.specs.declared.fault.PrintRefused.TheVariants as refusal

-- the most bytes that are pending after a call that succeeds, and one more
abbrev pub buffer_limit : ℕ
buffer_limit = 65536

-- a sink and the buffer before it: the bytes written and the count of faults that the sink shows, and what is pending
pub record Output : Type 0 where
  pub written : Option (List ℕ)
  pub write_faults : ℕ
  pub pending : List ℕ

abbrev pub output : Option (List ℕ) → ℕ → List ℕ → Output
output written write_faults pending =
    record { written = written; write_faults = write_faults; pending = pending }

-- A text was given to a buffer: of what was pending and this text a prefix was written, and the rest is pending.
pub record Buffers (before : Output) (given : List ℕ) (now : Output) : Type 0 where
  pub sent : List ℕ
  pub kept : sent ++ now.pending ≡ before.pending ++ given
  pub written : now.written ≡ append_known before.written sent
  pub later : before.write_faults ≤ now.write_faults

-- the sink failed, or memory ran out
abbrev pub Caused : PrintRefused → Output → Output → Type 0
Caused refusal.WriteFault before now = Rose before.write_faults now.write_faults
Caused refusal.Memory before now = Unit {0}

-- A print of a text: on Ok all of it was given to the buffer, after a refusal a prefix.
pub record PrintsText (text : List ℕ) (before : Output) (result : Result (Unit {0}) PrintRefused) (now : Output) : Type 0 where
  pub given : List ℕ
  pub rest : List ℕ
  pub parted : given ++ rest ≡ text
  pub all : OnOk result (rest ≡ [])
  pub buffers : Buffers before given now
  pub cause : IfErr result (λ why. Caused why before now)
