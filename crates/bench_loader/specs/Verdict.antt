-- What the files of a bench decide, before anything of the outside fails: a run over its logs, or why there is none.
use Rattle.std.specs.Prelude.{◌≡◌, ◌⊎◌, ℕ, ◌<◌, ◌≤◌, List, None, zip}
use Rattle.std.specs.List.{AllZip}
use Rattle.port_io.specs.Library.{named}
use Rattle.decisions.specs.ListDecisions.{FirstFailsAt}
use Rattle.bench_model.specs.declared.database.Bench.{Bench}
use Rattle.image_compiler.specs.Size.{image_size}
use Rattle.bench_file.specs.declared.plan.Plan.{Plan}
use Rattle.bench_inputs.specs.declared.database_file.DatabaseFile.{DatabaseFile}
use Rattle.bench_inputs.specs.Asking.{Files}
use Rattle.bench_inputs.specs.BenchFiles.{HasBytes, HasPlan, HasFaultyPlan, IsDatabaseOfBus, LacksDatabase, log_names}
use Rattle.bench_loader.specs.declared.fault.DatabaseFault.{DatabaseFault}
use Rattle.bench_loader.specs.Judging.{AreBuses, IsFirstRefused}

-- a run: the plan, the bench of it, and the bytes of each bus's log
pub record Run : Type 0 where
  pub plan : Plan
  pub bench : Bench
  pub logs : List (List ℕ)

pub data Verdict : Type 0 where
  missing : Verdict
  faulty : ℕ → Verdict
  refused : ℕ → DatabaseFault → Verdict
  large : ℕ → ℕ → Verdict
  decodes : Run → Verdict

-- the bench file and all databases are there
pub record HasInputs (files : Files) (name : List ℕ) (plan : Plan) (databases : List DatabaseFile) : Type 0 where
  pub has_plan : HasPlan files name plan
  pub databases_are : AllZip (IsDatabaseOfBus files) plan.buses databases

-- the bench file is not there
abbrev pub LacksBench : Files → List ℕ → Type 0
LacksBench files name = named files name ≡ None

-- it is, but a database is not there
pub record LacksSomeDatabase (files : Files) (name : List ℕ) : Type 0 where
  pub plan : Plan
  pub has_plan : HasPlan files name plan
  pub first : ℕ × Unit {0}
  pub lacks : FirstFailsAt (IsDatabaseOfBus files) (LacksDatabase files) plan.buses first

-- the image of a bench fits into the words that its plan gives a region
abbrev pub FitsRegion : Plan → Bench → Type 0
FitsRegion plan bench = image_size bench ≤ plan.words

-- a library has no file of this name
abbrev pub IsMissing : Files → List ℕ → Unit {0} → Type 0
IsMissing files name why = named files name ≡ None

-- all databases are there and valid and the bench fits, but a log is not there
pub record LacksSomeLog (files : Files) (name : List ℕ) : Type 0 where
  pub plan : Plan
  pub databases : List DatabaseFile
  pub inputs : HasInputs files name plan databases
  pub bench : Bench
  pub are_buses : AreBuses (zip plan.buses databases) bench.buses
  pub fits : FitsRegion plan bench
  pub first : ℕ × Unit {0}
  pub lacks : FirstFailsAt (HasBytes files) (IsMissing files) (log_names plan.buses) first

-- the first database that is refused, where all are there
pub record IsRefusedBench (files : Files) (name : List ℕ) (bus : ℕ) (fault : DatabaseFault) : Type 0 where
  pub plan : Plan
  pub databases : List DatabaseFile
  pub inputs : HasInputs files name plan databases
  pub is_first : IsFirstRefused (zip plan.buses databases) (bus, fault)

-- all are there and valid, but the bench needs more words than a region of the plan has
pub record IsLargeBench (files : Files) (name : List ℕ) (need room : ℕ) : Type 0 where
  pub plan : Plan
  pub databases : List DatabaseFile
  pub inputs : HasInputs files name plan databases
  pub bench : Bench
  pub are_buses : AreBuses (zip plan.buses databases) bench.buses
  pub needs : need ≡ image_size bench
  pub has : room ≡ plan.words
  pub larger : room < need

pub record IsRun (files : Files) (name : List ℕ) (run : Run) : Type 0 where
  pub databases : List DatabaseFile
  pub inputs : HasInputs files name run.plan databases
  pub are_buses : AreBuses (zip run.plan.buses databases) run.bench.buses
  pub fits : FitsRegion run.plan run.bench
  pub logs_are : AllZip (HasBytes files) (log_names run.plan.buses) run.logs

abbrev pub IsVerdict : Files → List ℕ → Verdict → Type 0
IsVerdict files name missing = LacksBench files name ⊎ (LacksSomeDatabase files name ⊎ LacksSomeLog files name)
IsVerdict files name (faulty line) = HasFaultyPlan files name line
IsVerdict files name (refused bus fault) = IsRefusedBench files name bus fault
IsVerdict files name (large need room) = IsLargeBench files name need room
IsVerdict files name (decodes run) = IsRun files name run
