-- A source in memory: its bytes, how much a read gives at most, and which reads fail.
use Rattle.std.specs.Prelude.{◌≡◌, ℕ, ◌+◌, ◌-◌, min, List, length, take, drop, Bool, false, ◌↔◌, Option, Some, Result, Ok, Err, IsErr, IfOk, Contains}
use Rattle.port_io.specs.Causes.{raised}
use Rattle.port_io.specs.Source.{ended_after}

-- all its bytes, how many of them reads have given, the most that one read gives, the numbers from 0 of the reads that
-- fail, the number of the next read, how many have failed, whether one has said the end
pub record MemoryReader : Type 0 where
  pub bytes : List ℕ
  pub place : ℕ
  pub step : ℕ
  pub fails : List ℕ
  pub calls : ℕ
  pub faults : ℕ
  pub ended : Bool

-- no read was made yet
abbrev pub unread : List ℕ → ℕ → List ℕ → MemoryReader
unread bytes step fails = record {
  bytes = bytes;
  place = 0;
  step = step;
  fails = fails;
  calls = 0;
  faults = 0;
  ended = false;
}

-- the bytes that reads have not given
abbrev pub bytes_left : MemoryReader → Option (List ℕ)
bytes_left r = Some (drop r.place r.bytes)

-- the bytes that reads have given
abbrev pub bytes_taken : MemoryReader → Option (List ℕ)
bytes_taken r = Some (take r.place r.bytes)

-- the reader after a read with this answer
abbrev pub after_read : {E : Type 0} → MemoryReader → Result ℕ E → MemoryReader
after_read {E} r (Ok n) = record r {
  place = r.place + n;
  calls = raised r.calls;
  ended = ended_after {E = E} r.ended (Ok n);
}
after_read r (Err _) = record r { calls = raised r.calls; faults = raised r.faults }

-- A read fails exactly at the numbers listed. Else it gives as much as the step, the buffer and the bytes left allow.
pub record ReadsMemory {E : Type 0} (before now : MemoryReader) (result : Result ℕ E) (buf : List ℕ) : Type 0 where
  pub fails : IsErr result ↔ Contains before.fails before.calls
  pub count : IfOk result (λ n. n ≡ min (min before.step (length buf)) (length before.bytes - before.place))
  pub after : now ≡ after_read before result
