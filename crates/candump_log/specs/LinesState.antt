-- What a reader of a log's lines shows.
use Rattle.std.specs.Prelude.{ℕ, ◌-◌, ◌^◌, Bool, false, List, [], ◌++◌, length, drop, map, Option, None, Some}
use Rattle.std.specs.Option.{option_map}
use Rattle.port_io.specs.OtherSide.{SourceState, OtherSide}
use Rattle.candump_log.specs.declared.log_line.LogLine.{LogLine}
use Rattle.candump_log.specs.LineOf.{line_of}

-- the most bytes that are taken of a log
abbrev pub log_limit : ℕ
log_limit = 2 ^ 40

-- what its source shows, how many bytes were taken of it since the reader was made and how many lines were given, the
-- texts of these lines where the source shows its bytes, whether one more can be given without asking the source, and
-- whether a call was refused
pub record LinesState : Type 0 where
  pub source : SourceState
  pub other : OtherSide
  pub taken : ℕ
  pub given : ℕ
  pub texts : Option (List (List ℕ))
  pub ready : Bool
  pub failed : Bool

-- what a source shows
abbrev pub source_state : Option (List ℕ) → Option (List ℕ) → ℕ → Bool → SourceState
source_state left taken read_faults ended = record { left = left; taken = taken; read_faults = read_faults; ended = ended }

-- the last so many bytes
abbrev pub last_bytes : ℕ → List ℕ → List ℕ
last_bytes n bytes = drop (length bytes - n) bytes

-- the bytes of the log that were taken: the last ones that the source gave
abbrev pub log_by : ℕ → Option (List ℕ) → Option (List ℕ)
log_by n taken = option_map (last_bytes n) taken

abbrev pub log_taken : LinesState → Option (List ℕ)
log_taken s = log_by s.taken s.source.taken

-- the whole log: the bytes taken of it, then those left
abbrev pub joined : Option (List ℕ) → Option (List ℕ) → Option (List ℕ)
joined None left = None
joined (Some taken) None = None
joined (Some taken) (Some left) = Some (taken ++ left)

abbrev pub log_of : LinesState → Option (List ℕ)
log_of s = joined (log_taken s) s.source.left

-- what the lines given say
abbrev pub lines_given : LinesState → Option (List LogLine)
lines_given s = option_map (map line_of) s.texts

-- a reader that was just made over this source
abbrev pub fresh : SourceState → OtherSide → LinesState
fresh source other = record {
  source = source;
  other = other;
  taken = 0;
  given = 0;
  texts = option_map (λ _. []) source.taken;
  ready = false;
  failed = false;
}
