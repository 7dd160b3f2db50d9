-- What the readers of a bench's files answer, over what their library shows before and after.
use Rattle.std.specs.Prelude.{◌≡◌, ℕ, ◌++◌, Bool, List, [], ◌∷◌, length, Option, IfSome, Result, Ok, Err, Vec}
use Rattle.std.specs.List.{AllZip}
use Rattle.std.specs.declared.alloc.Global.{Global}
use Rattle.port_io.specs.Causes.{Rose}
use Rattle.port_io.specs.OtherSide.{SourceState}
use Rattle.port_io.specs.Library.{IsFreshLog}
use Rattle.bench_file.specs.declared.plan.Plan.{Plan}
use Rattle.bench_file.specs.declared.plan.PlannedBus.{PlannedBus}
use Rattle.bench_file.specs.PlanOf.{IsPlan}
use Rattle.bench_inputs.specs.declared.database_file.DatabaseFile.{DatabaseFile}
use Rattle.bench_inputs.specs.declared.refused.BenchRefused.{BenchRefused}
use Rattle.bench_inputs.specs.declared.refused.BenchRefused.TheVariants as bench
use Rattle.bench_inputs.specs.declared.refused.FileRefused.{FileRefused}
use Rattle.bench_inputs.specs.declared.refused.FileRefused.TheVariants as file
use Rattle.bench_inputs.specs.Asking.{Files, LibraryState, Asks, AsksFirst}
use Rattle.bench_inputs.specs.BenchFiles.{HasBytes, HasFaultyPlan, HasDatabase, IsDatabaseOfBus, name_list, database_names}

-- a plan of some bytes, which are those of the named file where the files are known
pub record IsPlanOf (files : Option Files) (name : List ℕ) (plan : Plan) : Type 0 where
  pub bytes : List ℕ
  pub is_plan : IsPlan bytes plan
  pub known : IfSome files (λ fs. HasBytes fs name bytes)

-- the plan, or why there is none: the faulty line, a count that rose, or out of memory
abbrev pub AnswersPlan : LibraryState → List ℕ → LibraryState → Result Plan BenchRefused → Type 0
AnswersPlan before name now (Ok plan) = IsPlanOf before.files name plan
AnswersPlan before name now (Err (bench.Line n)) = IfSome before.files (λ files. HasFaultyPlan files name n)
AnswersPlan before name now (Err bench.Open) = Rose before.open_faults now.open_faults
AnswersPlan before name now (Err bench.Read) = Rose before.more_faults now.more_faults
AnswersPlan before name now (Err bench.Memory) = Unit {0}

-- the bench file of this name was asked for and read
pub record ReadsPlan (before : LibraryState) (name : List ℕ) (result : Result Plan BenchRefused)
    (now : LibraryState) : Type 0 where
  pub asks : Asks before (name ∷ []) now
  pub answer : AnswersPlan before name now result

-- why a file was not read: a count that rose, or out of memory
abbrev pub Caused : LibraryState → LibraryState → FileRefused → Type 0
Caused before now file.Open = Rose before.open_faults now.open_faults
Caused before now file.Read = Rose before.more_faults now.more_faults
Caused before now file.Memory = Unit {0}

abbrev pub AnswersDatabase : LibraryState → List ℕ → LibraryState → Result DatabaseFile FileRefused → Type 0
AnswersDatabase before name now (Ok database) = IfSome before.files (λ files. HasDatabase files name database)
AnswersDatabase before name now (Err why) = Caused before now why

-- the database of this name was asked for and read
pub record ReadsDatabase (before : LibraryState) (name : List ℕ) (result : Result DatabaseFile FileRefused)
    (now : LibraryState) : Type 0 where
  pub asks : Asks before (name ∷ []) now
  pub answer : AnswersDatabase before name now result

abbrev pub AnswersDatabaseOf : LibraryState → PlannedBus → LibraryState → Result DatabaseFile FileRefused → Type 0
AnswersDatabaseOf before bus now (Ok database) = IfSome before.files (λ files. IsDatabaseOfBus files bus database)
AnswersDatabaseOf before bus now (Err why) = Caused before now why

-- the database of a bus was asked for, where it names one, and read
pub record ReadsDatabaseOf (before : LibraryState) (bus : PlannedBus) (result : Result DatabaseFile FileRefused)
    (now : LibraryState) : Type 0 where
  pub asks : Asks before (name_list bus.database) now
  pub answer : AnswersDatabaseOf before bus now result

-- each bus's database is there and read
abbrev pub AreDatabases : Option Files → List PlannedBus → List DatabaseFile → Type 0
AreDatabases files buses read = IfSome files (λ fs. AllZip (IsDatabaseOfBus fs) buses read)

-- all databases were asked for and read, or the first ones up to one that was not read
pub record ReadsAll (before : LibraryState) (buses : List PlannedBus) (read : List DatabaseFile) (now : LibraryState) : Type 0 where
  pub asks : Asks before (database_names buses) now
  pub databases : AreDatabases before.files buses read
  pub count : length read ≡ length buses

pub record StopsReading (before : LibraryState) (buses : List PlannedBus) (why : FileRefused) (now : LibraryState) : Type 0 where
  pub asks : AsksFirst before (database_names buses) now
  pub cause : Caused before now why

abbrev pub ReadsDatabases : LibraryState → List PlannedBus → Result (Vec DatabaseFile Global) FileRefused → LibraryState → Type 0
ReadsDatabases before buses (Ok read) now = ReadsAll before buses read.items now
ReadsDatabases before buses (Err why) now = StopsReading before buses why now

-- what a log shows
abbrev pub log_state : Option (List ℕ) → Option (List ℕ) → ℕ → Bool → SourceState
log_state left taken read_faults ended = record { left = left; taken = taken; read_faults = read_faults; ended = ended }

-- a log just opened, by what it shows
abbrev pub IsFresh : Option Files → List ℕ → SourceState → Type 0
IsFresh files name log = IsFreshLog files name log.left log.taken log.read_faults log.ended

-- these logs were opened, each that of its name
pub record OpensAll (before : LibraryState) (names : List (List ℕ)) (logs : List SourceState) (now : LibraryState) : Type 0 where
  pub asks : Asks before names now
  pub fresh : AllZip (IsFresh before.files) names logs
  pub unread : now.more_faults ≡ before.more_faults

-- those before one name were opened, that one was not, and those behind it were not asked for
pub record StopsOpening (before : LibraryState) (names : List (List ℕ)) (logs : List SourceState) (now : LibraryState) : Type 0 where
  pub opened : List (List ℕ)
  pub refused : List ℕ
  pub behind : List (List ℕ)
  pub parted : names ≡ opened ++ refused ∷ behind
  pub fresh : AllZip (IsFresh before.files) opened logs
  pub rose : Rose before.open_faults now.open_faults
  pub unread : now.more_faults ≡ before.more_faults
  pub asks : Asks before (opened ++ refused ∷ []) now

abbrev pub OpensLogs : {E : Type 0} → LibraryState → List (List ℕ) → Result (Unit {0}) E → List SourceState
    → LibraryState → Type 0
OpensLogs before names (Ok done) logs now = OpensAll before names logs now
OpensLogs before names (Err why) logs now = StopsOpening before names logs now
