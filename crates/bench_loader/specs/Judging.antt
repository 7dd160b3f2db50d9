-- Which database a file holds on a bus of a kind, and which fault it has. A LIN bus has an LDF, the others have DBCs.
use Rattle.std.specs.Prelude.{◌≡◌, ℕ, List, []}
use Rattle.std.specs.List.{AllZip}
use Rattle.bench_model.specs.declared.database.Kind.{Kind}
use Rattle.bench_model.specs.declared.database.Kind.TheVariants as kinds
use Rattle.bench_model.specs.declared.database.Database.{Database}
use Rattle.bench_model.specs.declared.database.Bus.{Bus}
use Rattle.dbc_grammar.specs.Contract as dbc
use Rattle.ldf_grammar.specs.Described as ldf
use Rattle.bench_file.specs.declared.plan.PlannedBus.{PlannedBus}
use Rattle.bench_inputs.specs.declared.database_file.DatabaseFile.{DatabaseFile}
use Rattle.bench_inputs.specs.declared.database_file.DatabaseFile.TheVariants as files
use Rattle.decisions.specs.ListDecisions.{FirstFailsAt}
use Rattle.bench_loader.specs.declared.fault.DatabaseFault.{DatabaseFault}
use Rattle.bench_loader.specs.declared.fault.DatabaseFault.TheVariants as faults

-- the bytes are this database, on a bus of this kind
abbrev pub IsDatabaseOn : Kind → List ℕ → Database → Type 0
IsDatabaseOn kinds.Lin bytes d = ldf.IsDatabaseOf bytes d
IsDatabaseOn kinds.Can bytes d = dbc.IsDatabaseOf bytes d
IsDatabaseOn kinds.J1939 bytes d = dbc.IsDatabaseOf bytes d

-- the bytes are no database there, for this fault
abbrev pub DbcFails : List ℕ → DatabaseFault → Type 0
DbcFails bytes (faults.Dbc fault) = dbc.HasFault bytes fault
DbcFails bytes (faults.Ldf fault) = ⊥
DbcFails bytes faults.Long = ⊥

abbrev pub LdfFails : List ℕ → DatabaseFault → Type 0
LdfFails bytes (faults.Ldf fault) = ldf.HasFault bytes fault
LdfFails bytes (faults.Dbc fault) = ⊥
LdfFails bytes faults.Long = ⊥

abbrev pub HasFaultOn : Kind → List ℕ → DatabaseFault → Type 0
HasFaultOn kinds.Lin bytes fault = LdfFails bytes fault
HasFaultOn kinds.Can bytes fault = DbcFails bytes fault
HasFaultOn kinds.J1939 bytes fault = DbcFails bytes fault

-- the file as it was read is this database; a bus that names none has the empty one
abbrev pub Holds : Kind → DatabaseFile → Database → Type 0
Holds kind files.Absent d = d.messages ≡ []
Holds kind files.TooLong d = ⊥
Holds kind (files.Bytes bytes) d = IsDatabaseOn kind bytes d

-- the file is refused for this fault
abbrev pub IsRefused : Kind → DatabaseFile → DatabaseFault → Type 0
IsRefused kind files.Absent fault = ⊥
IsRefused kind files.TooLong fault = fault ≡ faults.Long
IsRefused kind (files.Bytes bytes) fault = HasFaultOn kind bytes fault

-- the same of a planned bus with its file
abbrev pub IsRefusedOnBus : PlannedBus × DatabaseFile → DatabaseFault → Type 0
IsRefusedOnBus planned fault = IsRefused planned.0.kind planned.1 fault

-- a bus of the bench that a planned bus and its file make
pub record IsBusOf (planned : PlannedBus × DatabaseFile) (bus : Bus) : Type 0 where
  pub name : bus.name ≡ planned.0.name
  pub kind : bus.kind ≡ planned.0.kind
  pub database : Holds planned.0.kind planned.1 bus.database

-- the files of buses make this bench, or the first that is refused is that of the bus at this place
abbrev pub AreBuses : List (PlannedBus × DatabaseFile) → List Bus → Type 0
AreBuses planned buses = AllZip IsBusOf planned buses

abbrev pub IsFirstRefused : List (PlannedBus × DatabaseFile) → ℕ × DatabaseFault → Type 0
IsFirstRefused planned refused = FirstFailsAt IsBusOf IsRefusedOnBus planned refused
