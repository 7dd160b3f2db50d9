-- A bench some of whose databases were replaced.
use Rattle.std.specs.Prelude.{ℕ, ◌==◌, Bool, List, map, find, Option, Some, None}
use Rattle.std.specs.List.{enumerate_from}
use Rattle.bench_model.specs.declared.replace.Change.{Change}
use Rattle.bench_model.specs.declared.database.Database.{Database}
use Rattle.bench_model.specs.declared.database.Bus.{Bus}
use Rattle.bench_model.specs.declared.database.Bench.{Bench}

-- whether a change names the bus at this place
abbrev pub names_bus : ℕ → Change → Bool
names_bus place c = c.bus == place

-- the database of a change, or the bus's own where no change names the bus
abbrev pub database_after : Database → Option Change → Database
database_after own (Some c) = c.database.database
database_after own None = own

-- the bus at this place after the changes: its name and its kind stay
abbrev pub bus_after : List Change → ℕ × Bus → Bus
bus_after changes x = record x.1 { database = database_after x.1.database (find (names_bus x.0) changes) }

-- the bench after the changes
abbrev pub bench_after : Bench → List Change → Bench
bench_after bench changes = record { buses = map (bus_after changes) (enumerate_from 0 bench.buses) }
