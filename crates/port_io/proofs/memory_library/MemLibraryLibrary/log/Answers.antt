use Rattle.std.proofs.Common.{sym}
use Rattle.port_io.specs.MemLog.{reader_of}
use Rattle.port_io.proofs.OpeningLaws.{fresh_log}
use Rattle.port_io.proofs.memory_library.MemLibraryLibrary.log.Goals as goal

pub returns-in-Some-clause-opened : goal.returns-in-Some-clause-opened
returns-in-Some-clause-opened c = fresh_log c.args.self.now.files.now c.args.name.now c.in-Some.file.now (reader_of c.new.result) c.new.ensures (sym c.in-Some.ensures.file)
