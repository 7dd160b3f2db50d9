-- A reader of lines by its fields, and the rule that it keeps.
use Rattle.std.specs.Prelude.{◌≡◌, ◌⊎◌, ℕ, ◌<◌, ◌≤◌, ◌&&◌, ◌||◌, Bool, true, false, List, [], ◌++◌, length, take, IfSome, nat_lt}
use Rattle.std.specs.Option.{option_map}
use Rattle.byte_forms.specs.Lines.{all_lines}
use Rattle.port_io.specs.OtherSide.{SourceState, OtherSide}
use Rattle.candump_log.specs.declared.place.Place.{Place}
use Rattle.candump_log.specs.Line.{line_limit}
use Rattle.candump_log.specs.LinesState.{LinesState, log_by}
use Rattle.candump_log.specs.Cut.{cut, has_feed}
use Rattle.candump_log.specs.Steps.{IsInLog}
use Rattle.candump_log.specs.LogLines.{NoFeed}

-- whether a line can be given: a whole one, or what is left at the end
abbrev pub is_ready : Bool → List ℕ → Bool → Bool
is_ready ended held long = has_feed held || (ended && (nat_lt 0 (length held) || long))

-- the lines of the bytes up to a place
abbrev pub texts_to : ℕ → List ℕ → List (List ℕ)
texts_to start bytes = all_lines (take start bytes)

abbrev pub shown : SourceState → OtherSide → List ℕ → Place → Bool → LinesState
shown source other held place failed = record {
  source = source;
  other = other;
  taken = place.taken;
  given = place.given;
  texts = option_map (texts_to place.start) (log_by place.taken source.taken);
  ready = is_ready source.ended held place.long;
  failed = failed;
}

-- the bytes taken are those of the lines given, those let go and those held
pub record IsAt (ended : Bool) (place : Place) (held bytes : List ℕ) : Type 0 where
  pub done : List ℕ
  pub dropped : List ℕ
  pub parted : bytes ≡ done ++ (dropped ++ held)
  pub count : length bytes ≡ place.taken
  pub start : length done ≡ place.start
  -- what is done ends in a line feed, or the log has ended and nothing else is there
  pub closed : ((cut done).rest ≡ []) ⊎ ((ended ≡ true) × (dropped ++ held ≡ []))
  pub plain : NoFeed dropped
  pub short : place.long ≡ false → dropped ≡ []
  pub over : place.long ≡ true → line_limit < length dropped

pub record Keeps (source : SourceState) (held : List ℕ) (place : Place) : Type 0 where
  pub numbers : IsInLog place held
  pub within : IfSome source.taken (λ bytes. place.taken ≤ length bytes)
  pub is_at : IfSome (log_by place.taken source.taken) (IsAt source.ended place held)
  pub end : source.ended ≡ true → IfSome source.left (λ left. left ≡ [])
