-- A source in memory as the reader that it is.
use Rattle.port_io.specs.MemoryReader.{MemoryReader}
use Rattle.port_io.specs.Progress.{reader}
use Rattle.port_io.specs.declared.memory_source.MemSource.{MemSource}

-- a source as a reader over the bytes that it owns
abbrev pub reader_of : MemSource → MemoryReader
reader_of s = reader s.bytes.items s.step s.fails.items s.progress
