-- The lines of the error output.
use Rattle.std.specs.Prelude.{ℕ, List, [], ◌∷◌, ◌++◌, codes, slice_index_or, Option, Some, None}
use Rattle.std.specs.Fmt.{decimal}
use Rattle.text_words.specs.SpacedWords.{text_of_words}
use Rattle.bench_loader.specs.FaultText.{fault_words}
use Rattle.bench_server.specs.declared.status.Status.{Status}
use Rattle.bench_server.specs.declared.status.Status.TheVariants as status

-- the name of the bus at this place, where there is a place
abbrev pub bus_words : List (List ℕ) → Option ℕ → List (List ℕ)
bus_words names None = []
bus_words names (Some bus) = slice_index_or names bus [] ∷ []

abbrev pub usage : List ℕ
usage = codes "usage: sigserve decode BENCH | check FILE | mill N | serve BENCH DESK PLACE.."

-- the words of a status's line, for buses of these names; success has none
abbrev pub status_words : List (List ℕ) → Status → List (List ℕ)
status_words names status.Ok = []
status_words names status.Usage = usage ∷ []
status_words names (status.BenchFile line) = codes "bench" ∷ decimal line ∷ []
status_words names (status.Refused bus fault) = codes "refused" ∷ (bus_words names bus ++ fault_words fault)
status_words names (status.TooLarge need room) = codes "large" ∷ decimal need ∷ decimal room ∷ []
status_words names status.OpenFault = codes "open" ∷ []
status_words names (status.ReadFault bus) = codes "read" ∷ bus_words names bus
status_words names status.WriteFault = codes "write" ∷ []
status_words names (status.TooLong bus) = codes "long" ∷ bus_words names (Some bus)
status_words names status.Memory = codes "memory" ∷ []

-- a line of words, parted by single blanks; no words have no line
abbrev pub line_of : List (List ℕ) → List ℕ
line_of [] = []
line_of (word ∷ words) = text_of_words (word ∷ words) ++ 10 ∷ []

abbrev pub fault_line : List (List ℕ) → Status → List ℕ
fault_line names s = line_of (status_words names s)

-- a status whose line takes no memory
abbrev pub HasPlainLine : Status → Type 0
HasPlainLine (status.Refused bus fault) = ⊥
HasPlainLine status.Ok = Unit {0}
HasPlainLine status.Usage = Unit {0}
HasPlainLine (status.BenchFile line) = Unit {0}
HasPlainLine (status.TooLarge need room) = Unit {0}
HasPlainLine status.OpenFault = Unit {0}
HasPlainLine (status.ReadFault bus) = Unit {0}
HasPlainLine status.WriteFault = Unit {0}
HasPlainLine (status.TooLong bus) = Unit {0}
HasPlainLine status.Memory = Unit {0}
