use Rattle.port_io.specs.MemLibrary.{state_of}
use Rattle.port_io.proofs.OpeningLaws.{after_found, after_failing, after_missing}
use Rattle.port_io.proofs.memory_library.MemLibrary.open_file.Goals as goal

pub returns-in-Some-clause-after : goal.returns-in-Some-clause-after
returns-in-Some-clause-after c = after_found (state_of c.args.self.now) c.args.name.now c.in-Some.file.now _ c.is_failing-failing.ensures.counted c.in-Some.ensures

pub returns-in-Some-2-clause-after : goal.returns-in-Some-2-clause-after
returns-in-Some-2-clause-after c = after_failing (state_of c.args.self.now) c.args.name.now c.in-Some-2.field-0.now _ _ c.is_failing-failing.ensures.counted c.raise.ensures c.in-Some-2.ensures

pub returns-in-None-clause-after : goal.returns-in-None-clause-after
returns-in-None-clause-after c = after_missing (state_of c.args.self.now) c.args.name.now _ _ _ c.is_failing-failing.ensures.counted c.raise-in-None.ensures c.raise-in-None-2.ensures c.in-None.ensures
