-- The place of a line's interface among names.
use Rattle.std.specs.Prelude.{◌≡◌, ℕ, ◌<◌, List, slice_get, slice_range, Option, Some, position}
use Rattle.std.specs.Str.{bytes_eq}
use Rattle.byte_forms.specs.Pieces.{◌>>=◌}
use Rattle.candump_log.specs.declared.log_line.LogLine.{LogLine}
use Rattle.candump_log.specs.Line.{LinePieces, Encodes}
use Rattle.candump_log.specs.LineOf.{interface_of}

-- the first name that equals this word
abbrev pub name_place : List (List ℕ) → List ℕ → Option ℕ
name_place names word = position (λ name. bytes_eq name word) names

-- the first name that equals the line's interface: none of a bad line, and none where no name does
unfoldable pub place_of : List (List ℕ) → List ℕ → Option ℕ
place_of names text = interface_of text >>= λ span. name_place names (slice_range text span.at span.end)

-- the text is no bad line, and this word is its interface
abbrev pub HasInterface : List ℕ → List ℕ → Type 0
HasInterface text word = (p : LinePieces) × (line : LogLine) × Encodes text p line × (p.interface ≡ word)

-- the word is at this place among the names, and at none before it
abbrev pub IsFirstName : List (List ℕ) → List ℕ → ℕ → Type 0
IsFirstName names word place =
    (slice_get names place ≡ Some word) × ((k : ℕ) → k < place → slice_get names k ≡ Some word → ⊥)

-- the word is none of the names
abbrev pub IsNoName : List (List ℕ) → List ℕ → Type 0
IsNoName names word = (k : ℕ) → slice_get names k ≡ Some word → ⊥
