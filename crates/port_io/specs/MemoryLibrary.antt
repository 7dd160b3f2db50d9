-- A library in memory: its files, which of its calls fail, and the file that is begun.
use Rattle.std.specs.Prelude.{◌≡◌, ℕ, min, List, [], length, drop, Bool, true, false, if◌then◌else◌, ◌↔◌, ◌⊎◌, Option, None, Some, Result, Ok, Err, is_ok, IsErr, OnOk, OnErr, IfOk, Contains}
use Rattle.std.specs.Option.{option_map}
use Rattle.port_io.specs.Causes.{raised}
use Rattle.port_io.specs.Library.{strays_after}
use Rattle.port_io.specs.MemoryReader.{MemoryReader}
use Rattle.port_io.specs.MemFile.{entries_of, file_named, unread_file}
use Rattle.port_io.specs.declared.memory_library.MemFile.{MemFile}

-- the files, the numbers from 0 of the calls that fail, the number of the next call, whether a file is begun, its bytes
-- left, the most that `more` gives of it, and the counts
pub record MemoryLibrary : Type 0 where
  pub files : List MemFile
  pub fails : List ℕ
  pub calls : ℕ
  pub begun : Bool
  pub rest : List ℕ
  pub step : ℕ
  pub open_faults : ℕ
  pub more_faults : ℕ
  pub strays : ℕ

-- the names and the bytes, which it shows
abbrev pub known_files : MemoryLibrary → Option (List (List ℕ × List ℕ))
known_files l = Some (entries_of l.files)

-- no call was made yet
abbrev pub unopened : List MemFile → List ℕ → MemoryLibrary
unopened files fails = record {
  files = files;
  fails = fails;
  calls = 0;
  begun = false;
  rest = [];
  step = 1;
  open_faults = 0;
  more_faults = 0;
  strays = 0;
}

-- `begin` and `log` fail exactly at the numbers listed and for a name that is not there
abbrev pub CannotOpen : MemoryLibrary → List ℕ → Type 0
CannotOpen l name = Contains l.fails l.calls ⊎ (file_named l.files name ≡ None)

-- the library after `begin` or `log` of that name, which did so or did not
abbrev pub after_open : MemoryLibrary → List ℕ → Bool → MemoryLibrary
after_open l name did = record l {
  calls = raised l.calls;
  open_faults = if did then l.open_faults else raised l.open_faults;
  strays = strays_after (known_files l) name l.strays;
}

-- the library with that file begun
abbrev pub with_begun : MemoryLibrary → MemFile → MemoryLibrary
with_begun l file = record l { begun = true; rest = file.content.items; step = file.step }

-- What `begin` does: it fails where the file can't be opened, and else begins it.
pub record BeginsMemory {T E : Type 0} (before now : MemoryLibrary) (name : List ℕ) (result : Result T E) : Type 0 where
  pub fails : IsErr result ↔ CannotOpen before name
  pub done : OnOk result (option_map (with_begun (after_open before name true)) (file_named before.files name) ≡ Some now)
  pub undone : OnErr result (now ≡ record (after_open before name false) { begun = false })

-- the library after `more` with this answer
abbrev pub after_more : {E : Type 0} → MemoryLibrary → Result ℕ E → MemoryLibrary
after_more l (Ok n) = record l { calls = raised l.calls; rest = drop n l.rest }
after_more l (Err _) = record l { calls = raised l.calls; more_faults = raised l.more_faults }

-- `more` fails exactly at the numbers listed. Else it gives as much as the step, the buffer and the bytes left allow.
pub record GivesMemory {E : Type 0} (before now : MemoryLibrary) (result : Result ℕ E) (buf : List ℕ) : Type 0 where
  pub fails : IsErr result ↔ Contains before.fails before.calls
  pub count : IfOk result (λ n. n ≡ min (min before.step (length buf)) (length before.rest))
  pub after : now ≡ after_more before result

-- What `log` does: it fails where the file can't be opened, and else gives an unread log over it.
pub record OpensMemory {L E : Type 0} (reader_of : L → MemoryReader) (before now : MemoryLibrary) (name : List ℕ)
    (result : Result L E) : Type 0 where
  pub fails : IsErr result ↔ CannotOpen before name
  pub reader : IfOk result (λ log. option_map unread_file (file_named before.files name) ≡ Some (reader_of log))
  pub after : now ≡ after_open before name (is_ok result)
