-- What a `MemSink` shows.
use Rattle.std.specs.Prelude.{◌-◌, length, take}
use Rattle.port_io.specs.MemoryWriter.{MemoryWriter}
use Rattle.port_io.specs.declared.memory_sink.MemSink.{MemSink}

-- a sink as a writer: the front of its room up to its place is written, and the rest is free
abbrev pub writer_of : MemSink → MemoryWriter
writer_of s = record {
  written = take s.place s.room.items;
  free = length s.room.items - s.place;
  step = s.step;
  fails = s.fails.items;
  calls = s.calls;
  faults = s.faults;
}
