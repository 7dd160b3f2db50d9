-- What the judges of databases answer.
use Rattle.std.specs.Prelude.{ℕ, List, All, Result, Ok, Err}
use Rattle.bench_model.specs.declared.database.Kind.{Kind}
use Rattle.bench_model.specs.declared.database.Database.{Database}
use Rattle.bench_model.specs.declared.valid.Valid.{Valid}
use Rattle.dbc_grammar.specs.Contract as dbc
use Rattle.ldf_grammar.specs.Described as ldf
use Rattle.bench_inputs.specs.declared.database_file.DatabaseFile.{DatabaseFile}
use Rattle.bench_loader.specs.declared.fault.DatabaseFault.{DatabaseFault}
use Rattle.bench_loader.specs.declared.fault.JudgeRefused.{JudgeRefused}
use Rattle.bench_loader.specs.declared.fault.JudgeRefused.TheVariants as refused
use Rattle.bench_file.specs.declared.plan.PlannedBus.{PlannedBus}
use Rattle.bench_model.specs.declared.database.Bus.{Bus}
use Rattle.bench_model.specs.declared.database.Bench.{Bench}
use Rattle.bench_model.specs.Check.{IsValid}
use Rattle.bench_loader.specs.declared.fault.BenchRefused.{BenchRefused}
use Rattle.bench_loader.specs.declared.fault.BenchRefused.TheVariants as benches
use Rattle.bench_loader.specs.Judging.{DbcFails, LdfFails, Holds, IsRefused, IsBusOf, IsRefusedOnBus, AreBuses, IsFirstRefused}

-- a database of which this holds, or a fault of which that does, or out of memory
abbrev pub Judges : (Database → Type 0) → (DatabaseFault → Type 0) → Result Valid JudgeRefused → Type 0
Judges Is Fails (Ok valid) = Is valid.database
Judges Is Fails (Err (refused.Fault fault)) = Fails fault
Judges Is Fails (Err refused.Memory) = Unit {0}

abbrev pub JudgesDbc : List ℕ → Result Valid JudgeRefused → Type 0
JudgesDbc bytes result = Judges (dbc.IsDatabaseOf bytes) (DbcFails bytes) result

abbrev pub JudgesLdf : List ℕ → Result Valid JudgeRefused → Type 0
JudgesLdf bytes result = Judges (ldf.IsDatabaseOf bytes) (LdfFails bytes) result

abbrev pub JudgesFile : Kind → DatabaseFile → Result Valid JudgeRefused → Type 0
JudgesFile kind file result = Judges (Holds kind file) (IsRefused kind file) result

-- a bus of the bench, with a valid database
pub record IsJudged (planned : PlannedBus × DatabaseFile) (bus : Bus) : Type 0 where
  pub is_bus : IsBusOf planned bus
  pub valid : IsValid bus.database

abbrev pub JudgesBus : PlannedBus × DatabaseFile → Result Bus JudgeRefused → Type 0
JudgesBus planned (Ok bus) = IsJudged planned bus
JudgesBus planned (Err (refused.Fault fault)) = IsRefusedOnBus planned fault
JudgesBus planned (Err refused.Memory) = Unit {0}

-- the bench of planned buses and their files, or the first file that is refused, or out of memory
pub record IsJudgedBench (planned : List (PlannedBus × DatabaseFile)) (buses : List Bus) : Type 0 where
  pub are_buses : AreBuses planned buses
  pub valid : All (λ (bus : Bus). IsValid bus.database) buses

abbrev pub JudgesBench : List (PlannedBus × DatabaseFile) → Result Bench BenchRefused → Type 0
JudgesBench planned (Ok bench) = IsJudgedBench planned bench.buses
JudgesBench planned (Err (benches.Refused bus fault)) = IsFirstRefused planned (bus, fault)
JudgesBench planned (Err benches.Memory) = Unit {0}

-- a refusal of the bus at this place
abbrev pub refusal_of_bus : ℕ → JudgeRefused → BenchRefused
refusal_of_bus bus (refused.Fault fault) = benches.Refused bus fault
refusal_of_bus bus refused.Memory = benches.Memory
