-- The files of a bench: its plan, and the databases and logs that the plan names.
use Rattle.std.specs.Prelude.{◌≡◌, ℕ, ◌<◌, ◌≤◌, List, [], ◌∷◌, length, map, flat_map, Option, Some, None}
use Rattle.port_io.specs.Library.{named}
use Rattle.bench_file.specs.declared.plan.Plan.{Plan}
use Rattle.bench_file.specs.declared.plan.PlannedBus.{PlannedBus}
use Rattle.bench_file.specs.PlanOf.{IsPlan, IsFault}
use Rattle.bench_inputs.specs.declared.database_file.DatabaseFile.{DatabaseFile}
use Rattle.bench_inputs.specs.declared.database_file.DatabaseFile.TheVariants as databases
use Rattle.bench_inputs.specs.Asking.{Files}

-- how many bytes a database may have
abbrev pub longest_database : ℕ
longest_database = 16777216

-- the file of this name is there and has these bytes
abbrev pub HasBytes : Files → List ℕ → List ℕ → Type 0
HasBytes files name bytes = named files name ≡ Some bytes

-- the bench file of this name makes this plan, or is faulty at this line
pub record HasPlan (files : Files) (name : List ℕ) (plan : Plan) : Type 0 where
  pub bytes : List ℕ
  pub is_there : HasBytes files name bytes
  pub is_plan : IsPlan bytes plan

pub record HasFaultyPlan (files : Files) (name : List ℕ) (line : ℕ) : Type 0 where
  pub bytes : List ℕ
  pub is_there : HasBytes files name bytes
  pub is_fault : IsFault bytes line

-- the bytes of a database as they are read: all of them, or that they are too many
abbrev pub IsRead : List ℕ → DatabaseFile → Type 0
IsRead bytes (databases.Bytes read) = (read ≡ bytes) × (length bytes ≤ longest_database)
IsRead bytes databases.TooLong = longest_database < length bytes
IsRead bytes databases.Absent = ⊥

-- the database of this name is there, and is read so
pub record HasDatabase (files : Files) (name : List ℕ) (file : DatabaseFile) : Type 0 where
  pub bytes : List ℕ
  pub is_there : HasBytes files name bytes
  pub is_read : IsRead bytes file

-- the database that a bus names, or none where it names none
abbrev pub HasDatabaseOf : Files → Option (List ℕ) → DatabaseFile → Type 0
HasDatabaseOf files None file = file ≡ databases.Absent
HasDatabaseOf files (Some name) file = HasDatabase files name file

abbrev pub IsDatabaseOfBus : Files → PlannedBus → DatabaseFile → Type 0
IsDatabaseOfBus files bus file = HasDatabaseOf files bus.database file

-- a bus names a database that is not there
abbrev pub LacksDatabase : Files → PlannedBus → Unit {0} → Type 0
LacksDatabase files bus why = (name : List ℕ) × (bus.database ≡ Some name) × (named files name ≡ None)

-- the names of the databases and of the logs, in order of buses
abbrev pub name_list : Option (List ℕ) → List (List ℕ)
name_list None = []
name_list (Some name) = name ∷ []

abbrev pub database_names : List PlannedBus → List (List ℕ)
database_names buses = flat_map (λ (bus : PlannedBus). name_list bus.database) buses

abbrev pub log_names : List PlannedBus → List (List ℕ)
log_names buses = map (λ (bus : PlannedBus). bus.log) buses
