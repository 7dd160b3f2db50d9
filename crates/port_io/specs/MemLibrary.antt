-- What a `MemLibrary` shows.
use Rattle.port_io.specs.MemoryLibrary.{MemoryLibrary}
use Rattle.port_io.specs.declared.memory_library.MemLibrary.{MemLibrary}

-- a library as its files, its list of failing calls and its counts
abbrev pub state_of : MemLibrary → MemoryLibrary
state_of l = record {
  files = l.files.now;
  fails = l.fails.items;
  calls = l.calls;
  begun = l.begun;
  rest = l.rest.now;
  step = l.step;
  open_faults = l.open_faults;
  more_faults = l.more_faults;
  strays = l.strays;
}
