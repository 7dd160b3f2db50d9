-- What the check of one file answers, and the verdict of the file alone.
use Rattle.std.specs.Prelude.{◌≡◌, ℕ, ◌≤◌, List, None, IfSome, IsSome, Result, Ok, Err, IfOk, if◌then◌else◌}
use Rattle.port_io.specs.Causes.{Rose}
use Rattle.port_io.specs.Library.{named}
use Rattle.tool_words.specs.Commands.{is_ldf_name}
use Rattle.bench_model.specs.Check.{IsValid}
use Rattle.bench_model.specs.declared.database.Kind.{Kind}
use Rattle.bench_model.specs.declared.database.Kind.TheVariants as kinds
use Rattle.bench_model.specs.declared.database.Database.{Database}
use Rattle.bench_model.specs.declared.valid.Valid.{Valid}
use Rattle.bench_inputs.specs.declared.database_file.DatabaseFile.{DatabaseFile}
use Rattle.bench_inputs.specs.Asking.{Files, LibraryState}
use Rattle.bench_inputs.specs.BenchFiles.{HasDatabase}
use Rattle.bench_loader.specs.declared.fault.DatabaseFault.{DatabaseFault}
use Rattle.bench_loader.specs.declared.check.CheckRefused.{CheckRefused}
use Rattle.bench_loader.specs.declared.check.CheckRefused.TheVariants as refused
use Rattle.bench_loader.specs.Judging.{Holds, IsRefused}

-- the kind of bus by which a file of this name is judged: an LDF's where it ends in `.ldf`, else a DBC's
abbrev pub kind_of_name : List ℕ → Kind
kind_of_name name = if is_ldf_name name then kinds.Lin else kinds.Can

-- the file of this name is there and holds this database
pub record HoldsNamed (files : Files) (name : List ℕ) (d : Database) : Type 0 where
  pub file : DatabaseFile
  pub is_there : HasDatabase files name file
  pub holds : Holds (kind_of_name name) file d

-- it is there, and refused for this fault
pub record IsRefusedNamed (files : Files) (name : List ℕ) (fault : DatabaseFault) : Type 0 where
  pub file : DatabaseFile
  pub is_there : HasDatabase files name file
  pub refused : IsRefused (kind_of_name name) file fault

pub data CheckVerdict : Type 0 where
  not_there : CheckVerdict
  has_fault : DatabaseFault → CheckVerdict
  has_database : Database → CheckVerdict

-- what the files decide of this name, before anything of the outside fails
abbrev pub IsCheckVerdict : Files → List ℕ → CheckVerdict → Type 0
IsCheckVerdict files name not_there = named files name ≡ None
IsCheckVerdict files name (has_fault fault) = IsRefusedNamed files name fault
IsCheckVerdict files name (has_database d) = HoldsNamed files name d

abbrev pub AnswersCheck : LibraryState → List ℕ → LibraryState → Result Valid CheckRefused → Type 0
AnswersCheck before name now (Ok valid) = IfSome before.files (λ files. HoldsNamed files name valid.database)
AnswersCheck before name now (Err (refused.Fault fault)) = IfSome before.files (λ files. IsRefusedNamed files name fault)
AnswersCheck before name now (Err refused.Open) = Rose before.open_faults now.open_faults
AnswersCheck before name now (Err refused.Read) = Rose before.more_faults now.more_faults
AnswersCheck before name now (Err refused.Memory) = Unit {0}

-- the file was read and judged, or why not; where it is there, nothing was asked for in vain
pub record ChecksFile (before : LibraryState) (name : List ℕ) (result : Result Valid CheckRefused)
    (now : LibraryState) : Type 0 where
  pub answer : AnswersCheck before name now result
  pub valid : IfOk result (λ valid. IsValid valid.database)
  pub files : now.files ≡ before.files
  pub opens : before.open_faults ≤ now.open_faults
  pub reads : before.more_faults ≤ now.more_faults
  pub strays : IfSome before.files (λ files. IsSome (named files name) → now.strays ≡ before.strays)
