-- How far reads over some bytes have come, with those bytes.
use Rattle.std.specs.Prelude.{ℕ, List}
use Rattle.port_io.specs.MemoryReader.{MemoryReader}
use Rattle.port_io.specs.declared.progress.Progress.{Progress}

-- the reader over these bytes with this step and these failing reads
abbrev pub reader : List ℕ → ℕ → List ℕ → Progress → MemoryReader
reader bytes step fails p = record {
  bytes = bytes;
  place = p.place;
  step = step;
  fails = fails;
  calls = p.calls;
  faults = p.faults;
  ended = p.ended;
}
