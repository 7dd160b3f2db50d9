-- The bench that a command makes: the buses that it names have the databases of its files, and all else is as it was.
use Rattle.std.specs.Prelude.{◌≡◌, ◌<◌, ◌≤◌, ℕ, List, length, map, zip, Option, IfSome}
use Rattle.std.specs.List.{AllZip}
use Rattle.decisions.specs.ListDecisions.{FirstFailsFor}
use Rattle.bench_model.specs.declared.database.Bench.{Bench}
use Rattle.bench_model.specs.declared.replace.Change.{Change}
use Rattle.bench_model.specs.Replaced.{bench_after}
use Rattle.image_compiler.specs.Size.{image_size}
use Rattle.bench_inputs.specs.declared.database_file.DatabaseFile.{DatabaseFile}
use Rattle.bench_inputs.specs.Asking.{Files}
use Rattle.bench_inputs.specs.BenchFiles.{HasDatabase}
use Rattle.bench_loader.specs.declared.fault.DatabaseFault.{DatabaseFault}
use Rattle.bench_loader.specs.declared.load_line.Pair.{Pair}
use Rattle.bench_loader.specs.declared.targets.Target.{Target}
use Rattle.bench_loader.specs.Judging.{Holds, IsRefused}
use Rattle.bench_loader.specs.Targets.{NamesBuses}

-- the names of the files, in the order of the pairs
abbrev pub file_names : List Pair → List (List ℕ)
file_names pairs = map (λ (p : Pair). p.file) pairs

-- these are the files of the pairs as they were read, where the library's files are known
abbrev pub AreFiles : Option Files → List Pair → List DatabaseFile → Type 0
AreFiles files pairs read = IfSome files (λ fs. AllZip (HasDatabase fs) (file_names pairs) read)

-- a bus, with the file of its new database, has this change; or the file is refused
pub record IsChange (asked : Target × DatabaseFile) (change : Change) : Type 0 where
  pub bus : change.bus ≡ asked.0.bus
  pub database : Holds asked.0.kind asked.1 change.database.database

pub record IsRefusedChange (asked : Target × DatabaseFile) (refused : ℕ × DatabaseFault) : Type 0 where
  pub bus : refused.0 ≡ asked.0.bus
  pub fault : IsRefused asked.0.kind asked.1 refused.1

-- what a command names: pairs, their buses, and their files as they were read, one for each pair
pub record NamesFiles (files : Option Files) (bench : Bench) (line : List ℕ) (targets : List Target)
    (read : List DatabaseFile) : Type 0 where
  pub pairs : List Pair
  pub names : NamesBuses bench.buses line pairs targets
  pub count : length read ≡ length pairs
  pub are_files : AreFiles files pairs read

-- the command's first file that is refused is that of this bus
pub record IsRefusedLoad (files : Option Files) (bench : Bench) (line : List ℕ) (refused : ℕ × DatabaseFault) : Type 0 where
  pub targets : List Target
  pub read : List DatabaseFile
  pub names : NamesFiles files bench line targets read
  pub first : FirstFailsFor IsChange IsRefusedChange (zip targets read) refused

-- the bench after the command
pub record IsNextBench (files : Option Files) (bench : Bench) (line : List ℕ) (next : Bench) : Type 0 where
  pub targets : List Target
  pub read : List DatabaseFile
  pub names : NamesFiles files bench line targets read
  pub changes : List Change
  pub each : AllZip IsChange (zip targets read) changes
  pub after : next ≡ bench_after bench changes

-- its image takes so many words, which are more than the room; or it fits
pub record IsTooLarge (files : Option Files) (bench : Bench) (line : List ℕ) (room need : ℕ) : Type 0 where
  pub next : Bench
  pub is_next : IsNextBench files bench line next
  pub need_is : need ≡ image_size next
  pub large : room < need

pub record IsFitting (files : Option Files) (bench : Bench) (line : List ℕ) (room : ℕ) : Type 0 where
  pub next : Bench
  pub is_next : IsNextBench files bench line next
  pub fits : image_size next ≤ room
