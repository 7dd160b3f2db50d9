-- The databases of buses, read and judged, and the bench that they make.
use Rattle.std.specs.Prelude.{◌≡◌, ◌≢◌, ◌⊎◌, ℕ, ◌<◌, ◌≤◌, List, length, All, AllPairs, zip, IfSome, Result, Ok, Err}
use Rattle.std.specs.List.{AllZip}
use Rattle.port_io.specs.Causes.{Rose}
use Rattle.port_io.specs.OtherSide.{SourceState, SinkState}
use Rattle.bench_model.specs.declared.database.Bench.{Bench}
use Rattle.bench_model.specs.ValidBench.{IsValidBench, most_buses}
use Rattle.image_compiler.specs.Size.{image_size}
use Rattle.bench_file.specs.declared.plan.PlannedBus.{PlannedBus}
use Rattle.bench_file.specs.PlanOf.{IsPlannedBus}
use Rattle.bench_inputs.specs.declared.database_file.DatabaseFile.{DatabaseFile}
use Rattle.bench_inputs.specs.Asking.{Files, LibraryState}
use Rattle.bench_inputs.specs.BenchFiles.{IsDatabaseOfBus, LacksDatabase}
use Rattle.decisions.specs.ListDecisions.{FirstFailsAt}
use Rattle.bench_loader.specs.declared.fault.DatabaseFault.{DatabaseFault}
use Rattle.bench_loader.specs.Judging.{AreBuses, IsFirstRefused}
use Rattle.bench_server.specs.declared.refused.DecodeRefused.{DecodeRefused}
use Rattle.bench_server.specs.declared.refused.DecodeRefused.TheVariants as refused
use Rattle.bench_server.specs.Outcomes.{Seen}

abbrev pub seen : LibraryState → LibraryState → SinkState → SinkState → List SourceState → Seen
seen library library_now out out_now logs =
    record { library = library; library_now = library_now; out = out; out_now = out_now; logs = logs }

-- what no call of the tool changes, and the counts that never fall
pub record Keeps (s : Seen) : Type 0 where
  pub files : s.library_now.files ≡ s.library.files
  pub opens : s.library.open_faults ≤ s.library_now.open_faults
  pub reads : s.library.more_faults ≤ s.library_now.more_faults
  pub writes : s.out.write_faults ≤ s.out_now.write_faults

-- the files of these buses make this bench
pub record MakeBench (files : Files) (buses : List PlannedBus) (bench : Bench) : Type 0 where
  pub databases : List DatabaseFile
  pub databases_are : AllZip (IsDatabaseOfBus files) buses databases
  pub are_buses : AreBuses (zip buses databases) bench.buses

-- all are there, and the first that is refused is that of the bus at this place
pub record RefuseBench (files : Files) (buses : List PlannedBus) (bus : ℕ) (fault : DatabaseFault) : Type 0 where
  pub databases : List DatabaseFile
  pub databases_are : AllZip (IsDatabaseOfBus files) buses databases
  pub is_first : IsFirstRefused (zip buses databases) (bus, fault)

-- one of them is not there
abbrev pub LacksFile : Files → List PlannedBus → Type 0
LacksFile files buses = (first : ℕ × Unit {0}) × FirstFailsAt (IsDatabaseOfBus files) (LacksDatabase files) buses first

-- buses that a plan may have
pub record ArePlannedBuses (buses : List PlannedBus) : Type 0 where
  pub some_bus : 1 ≤ length buses
  pub few : length buses ≤ most_buses
  pub names : AllPairs (λ (a b : PlannedBus). a.name ≢ b.name) buses
  pub forms : All IsPlannedBus buses

-- a valid bench of these buses
pub record IsBenchOf (before : LibraryState) (buses : List PlannedBus) (bench : Bench) : Type 0 where
  pub count : length bench.buses ≡ length buses
  pub valid : IsValidBench bench
  pub made : IfSome before.files (λ files. MakeBench files buses bench)

abbrev pub AnswersLoad : LibraryState → List PlannedBus → LibraryState → Result Bench DecodeRefused → Type 0
AnswersLoad before buses now (Ok bench) = IsBenchOf before buses bench
AnswersLoad before buses now (Err (refused.Database bus fault)) =
    IfSome before.files (λ files. RefuseBench files buses bus fault)
AnswersLoad before buses now (Err (refused.Large need room)) = ⊥
AnswersLoad before buses now (Err refused.Open) = Rose before.open_faults now.open_faults
AnswersLoad before buses now (Err refused.Read) = Rose before.more_faults now.more_faults
AnswersLoad before buses now (Err (refused.Buses why)) = ⊥
AnswersLoad before buses now (Err refused.Memory) = Unit {0}

-- the databases of these buses were loaded, or why not
pub record LoadsDatabases (before : LibraryState) (buses : List PlannedBus) (result : Result Bench DecodeRefused)
    (now : LibraryState) : Type 0 where
  pub answer : AnswersLoad before buses now result
  pub files : now.files ≡ before.files
  pub opens : before.open_faults ≤ now.open_faults
  pub reads : before.more_faults ≤ now.more_faults
  pub strays : IfSome before.files (λ files. (now.strays ≡ before.strays) ⊎ LacksFile files buses)

-- the bench with its image, which fits into the room; or its size, which is larger
abbrev pub AnswersImage : ℕ → Bench → Result Bench DecodeRefused → Type 0
AnswersImage room bench (Ok image) = (image ≡ bench) × (image_size bench ≤ room)
AnswersImage room bench (Err (refused.Large need has)) = (need ≡ image_size bench) × (has ≡ room) × (room < need)
AnswersImage room bench (Err refused.Memory) = Unit {0}
AnswersImage room bench (Err (refused.Database bus fault)) = ⊥
AnswersImage room bench (Err refused.Open) = ⊥
AnswersImage room bench (Err refused.Read) = ⊥
AnswersImage room bench (Err (refused.Buses why)) = ⊥
