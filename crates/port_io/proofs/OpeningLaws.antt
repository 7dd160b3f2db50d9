-- A file in memory is found by its name in the list of files exactly where the map of files names it.
use Rattle.std.proofs.Common.{◌≡◌, ℕ, List, [], ◌∷◌, Bool, true, false, cond, None, Some, string_bytes, refl, sym, ap, ◌∙◌}
use Rattle.std.specs.Option.{option_map}
use Rattle.std.specs.Str.{bytes_eq}
use Rattle.port_io.specs.Causes.{raised}
use Rattle.port_io.specs.Library.{named, OpensFile, IsFreshLog}
use Rattle.port_io.specs.MemoryReader.{MemoryReader, bytes_left, bytes_taken}
use Rattle.port_io.specs.MemFile.{entries_of, file_named, unread_file}
use Rattle.port_io.specs.MemoryLibrary.{MemoryLibrary, after_open}
use Rattle.port_io.specs.declared.memory_library.MemFile.{MemFile}

named_head : (file : MemFile) (files : List MemFile) (name : List ℕ) (b : Bool) → named (entries_of files) name ≡ option_map (λ (file : MemFile). file.content.items) (file_named files name) → cond b (Some file.content.items) (named (entries_of files) name) ≡ option_map (λ (file : MemFile). file.content.items) (cond b (Some file) (file_named files name))
named_head file files name true rest = refl
named_head file files name false rest = rest

-- the named bytes are those of the named file
named-entries_of : (files : List MemFile) (name : List ℕ) → named (entries_of files) name ≡ option_map (λ (file : MemFile). file.content.items) (file_named files name)
named-entries_of [] name = refl
named-entries_of (file ∷ files) name = named_head file files name (bytes_eq (string_bytes file.name) name) (named-entries_of files name)

named_there : (files : List MemFile) (name : List ℕ) (file : MemFile) → Some file ≡ file_named files name → named (entries_of files) name ≡ Some file.content.items
named_there files name file found = named-entries_of files name ∙ ap (option_map (λ (file : MemFile). file.content.items)) (sym found)

named_missing : (files : List MemFile) (name : List ℕ) → None ≡ file_named files name → named (entries_of files) name ≡ None
named_missing files name missing = named-entries_of files name ∙ ap (option_map (λ (file : MemFile). file.content.items)) (sym missing)

-- the file that was found is the one that the map names
pub opens_found : (files : List MemFile) (name : List ℕ) (file : MemFile) → Some file ≡ file_named files name → OpensFile (Some (entries_of files)) name (Some file.content.items)
opens_found files name file found = (named_there files name file found, refl)

-- a log over the file that was found is fresh
pub fresh_log : (files : List MemFile) (name : List ℕ) (file : MemFile) (r : MemoryReader) → r ≡ unread_file file → Some file ≡ file_named files name → IsFreshLog (Some (entries_of files)) name (bytes_left r) (bytes_taken r) r.faults r.ended
fresh_log files name file r is found = rw is (record { bytes = opens_found files name file found; none_taken = refl; no_faults = refl; not_ended = refl })

-- the library after a call that found the file
pub after_found : (l : MemoryLibrary) (name : List ℕ) (file : MemFile) (calls : ℕ) → calls ≡ raised l.calls → Some file ≡ file_named l.files name → record l { calls = calls } ≡ after_open l name true
after_found l name file calls counted found = rw (counted, named_there l.files name file found) refl

-- the library after a call that found the file and was to fail
pub after_failing : (l : MemoryLibrary) (name : List ℕ) (file : MemFile) (calls faults : ℕ) → calls ≡ raised l.calls → faults ≡ raised l.open_faults → Some file ≡ file_named l.files name → record l { calls = calls; open_faults = faults } ≡ after_open l name false
after_failing l name file calls faults counted failed found = rw (counted, failed, named_there l.files name file found) refl

-- the library after a call whose name is not there
pub after_missing : (l : MemoryLibrary) (name : List ℕ) (calls faults strays : ℕ) → calls ≡ raised l.calls → faults ≡ raised l.open_faults → strays ≡ raised l.strays → None ≡ file_named l.files name → record l { calls = calls; open_faults = faults; strays = strays } ≡ after_open l name false
after_missing l name calls faults strays counted failed strayed missing = rw (counted, failed, strayed, named_missing l.files name missing) refl
