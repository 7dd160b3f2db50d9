-- What the stages of a command answer.
use Rattle.std.specs.Prelude.{◌≡◌, ℕ, List, length, Result, Ok, Err, Vec, Option, Some, None}
use Rattle.std.specs.List.{AllZip, IsAmong}
use Rattle.std.specs.declared.alloc.Global.{Global}
use Rattle.port_io.specs.Causes.{Rose}
use Rattle.decisions.specs.ListDecisions.{FirstFails, FirstFailsFor}
use Rattle.bench_model.specs.declared.database.Bus.{Bus}
use Rattle.bench_model.specs.declared.replace.Change.{Change}
use Rattle.bench_inputs.specs.declared.database_file.DatabaseFile.{DatabaseFile}
use Rattle.bench_inputs.specs.Asking.{LibraryState, Asks, AsksFirst}
use Rattle.bench_inputs.specs.declared.refused.FileRefused.{FileRefused}
use Rattle.bench_inputs.specs.declared.refused.FileRefused.TheVariants as files
use Rattle.bench_loader.specs.declared.fault.BenchRefused.{BenchRefused}
use Rattle.bench_loader.specs.declared.fault.BenchRefused.TheVariants as benches
use Rattle.bench_loader.specs.declared.load_line.Pair.{Pair}
use Rattle.bench_loader.specs.declared.targets.Target.{Target}
use Rattle.bench_loader.specs.declared.targets.BusRefused.{BusRefused}
use Rattle.bench_loader.specs.declared.targets.BusRefused.TheVariants as buses
use Rattle.bench_loader.specs.declared.load_files.Unread.{Unread}
use Rattle.bench_loader.specs.declared.load_files.Unread.TheVariants as unread
use Rattle.bench_loader.specs.Targets.{IsTarget, IsUnknown, place_of_bus, places_of}
use Rattle.bench_loader.specs.NextBench.{file_names, AreFiles, IsChange, IsRefusedChange}

-- the bus that a pair names, or that there is none
abbrev pub FindsTarget : List Bus → Pair → Option Target → Type 0
FindsTarget bench pair (Some target) = IsTarget bench pair target
FindsTarget bench pair None = place_of_bus bench pair.bus ≡ None

-- the buses that pairs name, or the first pair that names none
abbrev pub FindsTargets : List Bus → List Pair → Result (Vec Target Global) BusRefused → Type 0
FindsTargets bench pairs (Ok targets) = AllZip (IsTarget bench) pairs targets.items
FindsTargets bench pairs (Err (buses.Unknown place name)) = FirstFails (IsTarget bench) (IsUnknown bench) pairs place name
FindsTargets bench pairs (Err buses.Memory) = Unit {0}

-- all files were asked for and read, or the first ones up to one that was not read, which is named by its bus
pub record ReadsAllFiles (before : LibraryState) (pairs : List Pair) (read : List DatabaseFile) (now : LibraryState) : Type 0 where
  pub asks : Asks before (file_names pairs) now
  pub are_files : AreFiles before.files pairs read
  pub count : length read ≡ length pairs

abbrev pub IsUnreadCause : LibraryState → List Target → LibraryState → Unread → Type 0
IsUnreadCause before targets now (unread.Open bus) = IsAmong (places_of targets) bus × Rose before.open_faults now.open_faults
IsUnreadCause before targets now (unread.Read bus) = IsAmong (places_of targets) bus × Rose before.more_faults now.more_faults
IsUnreadCause before targets now unread.Memory = Unit {0}

pub record StopsAtFile (before : LibraryState) (pairs : List Pair) (targets : List Target) (why : Unread)
    (now : LibraryState) : Type 0 where
  pub asks : AsksFirst before (file_names pairs) now
  pub cause : IsUnreadCause before targets now why

abbrev pub ReadsFiles : LibraryState → List Pair → List Target → Result (Vec DatabaseFile Global) Unread → LibraryState → Type 0
ReadsFiles before pairs targets (Ok read) now = ReadsAllFiles before pairs read.items now
ReadsFiles before pairs targets (Err why) now = StopsAtFile before pairs targets why now

-- why a file was not read, with the bus of the file
abbrev pub unread_of : ℕ → FileRefused → Unread
unread_of bus files.Open = unread.Open bus
unread_of bus files.Read = unread.Read bus
unread_of bus files.Memory = unread.Memory

-- the changes that files make, or the first file that is refused
abbrev pub JudgesFiles : List (Target × DatabaseFile) → Result (Vec Change Global) BenchRefused → Type 0
JudgesFiles asked (Ok changes) = AllZip IsChange asked changes.items
JudgesFiles asked (Err (benches.Refused bus fault)) = FirstFailsFor IsChange IsRefusedChange asked (bus, fault)
JudgesFiles asked (Err benches.Memory) = Unit {0}
