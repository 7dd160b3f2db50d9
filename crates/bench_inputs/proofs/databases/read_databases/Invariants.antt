use Rattle.std.proofs.Common.{◌≡◌, length, take}
use Rattle.bench_inputs.specs.Asking.{library_state, Asks}
use Rattle.bench_inputs.specs.BenchFiles.{database_names}
use Rattle.bench_inputs.specs.Reading.{AreDatabases}
use Rattle.bench_inputs.proofs.databases.read_databases.Given as goal

-- the databases of the buses so far were asked for and read
abbrev pub invariant-loop-bus : goal.invariant-loop-bus
invariant-loop-bus g l = record {
  asks : Asks
      (library_state (g.B.Library.files l.fn.library) (g.B.Library.open_faults l.fn.library) (g.B.Library.more_faults l.fn.library) (g.B.Library.strays l.fn.library))
      (database_names (take l.bus-index l.buses))
      (library_state (g.B.Library.files l.library) (g.B.Library.open_faults l.library) (g.B.Library.more_faults l.library) (g.B.Library.strays l.library));
  databases : AreDatabases (g.B.Library.files l.fn.library) (take l.bus-index l.buses) l.databases.items;
  count : length l.databases.items ≡ l.bus-index;
}
