-- What a `MemLog` shows.
use Rattle.port_io.specs.MemoryReader.{MemoryReader}
use Rattle.port_io.specs.Progress.{reader}
use Rattle.port_io.specs.declared.memory_log.MemLog.{MemLog}

-- a log as a reader over the bytes that it borrows
abbrev pub reader_of : MemLog → MemoryReader
reader_of log = reader log.content.now log.step log.fails.now log.progress
