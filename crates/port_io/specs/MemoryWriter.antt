-- A sink in memory: what was written, the room left, how much a write takes at most, and which writes fail.
use Rattle.std.specs.Prelude.{◌≡◌, ℕ, ◌-◌, min, List, [], ◌++◌, length, take, ◌↔◌, ◌⊎◌, Result, Ok, Err, IsErr, IfOk, Contains}
use Rattle.port_io.specs.Causes.{raised}

-- the bytes written, how many more there is room for, the most that one write takes, the numbers from 0 of the writes
-- that fail, the number of the next write, how many have failed
pub record MemoryWriter : Type 0 where
  pub written : List ℕ
  pub free : ℕ
  pub step : ℕ
  pub fails : List ℕ
  pub calls : ℕ
  pub faults : ℕ

-- no write was made yet
abbrev pub unwritten : ℕ → ℕ → List ℕ → MemoryWriter
unwritten free step fails = record {
  written = [];
  free = free;
  step = step;
  fails = fails;
  calls = 0;
  faults = 0;
}

-- the writer after a write of this piece with this answer
abbrev pub after_write : {E : Type 0} → MemoryWriter → Result ℕ E → List ℕ → MemoryWriter
after_write w (Ok n) piece = record w {
  written = w.written ++ take n piece;
  free = w.free - n;
  calls = raised w.calls;
}
after_write w (Err _) piece = record w { calls = raised w.calls; faults = raised w.faults }

-- A write fails exactly at the numbers listed and where there is no room. Else it takes as much as the step, the piece
-- and the room allow.
pub record WritesMemory {E : Type 0} (before now : MemoryWriter) (result : Result ℕ E) (piece : List ℕ) : Type 0 where
  pub fails : IsErr result ↔ (Contains before.fails before.calls ⊎ (before.free ≡ 0))
  pub count : IfOk result (λ n. n ≡ min (min before.step (length piece)) before.free)
  pub after : now ≡ after_write before result piece
