-- A text that is written until the sink fails.
use Rattle.std.specs.Prelude.{◌≡◌, ℕ, ◌≤◌, List, length, take, Option, Result, OnOk, OnErr}
use Rattle.std.specs.Io.KnownBytes.{append_known}
use Rattle.port_io.specs.Causes.{Rose}
use Rattle.port_io.specs.OtherSide.{SinkState}

-- what a sink shows
abbrev pub sink_state : Option (List ℕ) → ℕ → SinkState
sink_state written write_faults = record { written = written; write_faults = write_faults }

-- so many bytes of the text were written, all where the sink did not fail
pub record WritesPrefix {T E : Type 0} (before : SinkState) (text : List ℕ) (count : ℕ) (result : Result T E)
    (now : SinkState) : Type 0 where
  pub within : count ≤ length text
  pub written : now.written ≡ append_known before.written (take count text)
  pub all : OnOk result (count ≡ length text)
  pub later : before.write_faults ≤ now.write_faults
  pub failed : OnErr result (Rose before.write_faults now.write_faults)
