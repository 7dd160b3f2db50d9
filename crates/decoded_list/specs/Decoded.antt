-- The decoded list of a log: the records of all lines in order, each line under a version of the databases of its own.
use Rattle.std.specs.Prelude.{◌≡◌, ℕ, ◌+◌, List, [], ◌∷◌, ◌++◌, length, Option, Some, None, slice_get}
use Rattle.bench_model.specs.declared.database.Kind.{Kind}
use Rattle.bench_model.specs.declared.database.Bench.{Bench}
use Rattle.bench_model.specs.declared.reading.Reading.{Reading}
use Rattle.bench_model.specs.Meaning.{bench_meaning}
use Rattle.candump_log.specs.declared.log_line.LogLine.{LogLine}
use Rattle.decoded_list.specs.Records.{Meaning, stamp_of, records_at}

-- the meaning on a bus of a bench that may be missing
abbrev pub meaning_in : ℕ → Option Bench → Meaning
meaning_in bus (Some bench) asked bytes = bench_meaning bench bus asked bytes
meaning_in bus None asked bytes = None

-- the records of these lines after those before them, numbered from this number on; the versions name the benches
unfoldable pub decoded_after : ℕ → Kind → List Bench → List LogLine → ℕ → List ℕ → List LogLine → List Reading
decoded_after bus k benches before number versions [] = []
decoded_after bus k benches before number [] (l ∷ ls) = []
decoded_after bus k benches before number (v ∷ vs) (l ∷ ls) =
    let here = records_at (meaning_in bus (slice_get benches v)) k (record { bus = bus; version = v }) before number l in
    here ++ decoded_after bus k benches (before ++ l ∷ []) (number + length here) vs ls

-- the decoded list of a bus of this kind: line after line, numbered from 0 through the whole list
abbrev pub decoded : ℕ → Kind → List Bench → List ℕ → List LogLine → List Reading
decoded bus k benches versions lines = decoded_after bus k benches [] 0 versions lines

-- each record has its place in the list as its number, and is of the bus
abbrev pub IsNumbered : ℕ → ℕ → List Reading → Type 0
IsNumbered bus first records = (i : ℕ) (r : Reading) → slice_get records i ≡ Some r → (r.number ≡ first + i) × (r.bus ≡ bus)

-- the record is of one of the lines, with the line's version and stamp
abbrev pub IsOfALine : List ℕ → List LogLine → Reading → Type 0
IsOfALine versions lines r =
    (j : ℕ) × (l : LogLine) × (slice_get lines j ≡ Some l) × (slice_get versions j ≡ Some r.version) × (r.micros ≡ stamp_of l)
