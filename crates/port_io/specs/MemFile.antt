-- Files in memory, as a library shows them.
use Rattle.std.specs.Prelude.{ℕ, List, map, Option, string_bytes}
use Rattle.std.specs.List.{find}
use Rattle.std.specs.Str.{bytes_eq}
use Rattle.port_io.specs.MemoryReader.{MemoryReader, unread}
use Rattle.port_io.specs.declared.memory_library.MemFile.{MemFile}

-- the names and the bytes
abbrev pub entries_of : List MemFile → List (List ℕ × List ℕ)
entries_of files = map (λ file. (string_bytes file.name, file.content.items)) files

-- the first file of that name
abbrev pub file_named : List MemFile → List ℕ → Option MemFile
file_named files name = find (λ file. bytes_eq (string_bytes file.name) name) files

-- a log over the file, of which nothing was read
abbrev pub unread_file : MemFile → MemoryReader
unread_file file = unread file.content.items file.step file.fails.items
