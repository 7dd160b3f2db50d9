-- Which line of a text of wants it is refused for: the first that is faulty.
use Rattle.std.specs.Prelude.{◌≡◌, ℕ, ◌+◌, ◌&&◌, ◌||◌, Bool, true, false, List, [], ◌∷◌, ◌++◌, length, Option, Some, None, is_some, if◌then◌else◌}
use Rattle.std.specs.List.{list_all}
use Rattle.text_words.specs.Words.{is_empty}
use Rattle.subscriber_text.specs.WantLines.{WantLine, IsWant, OfNoBus, OtherForm, line_words, format_of, want_line}
use Rattle.subscriber_text.specs.declared.fault.WantsFault.{WantsFault}
use Rattle.subscriber_text.specs.declared.fault.WantsFault.TheVariants.{Line, UnknownBus}

-- a line that names the format
abbrev pub names_format : List ℕ → Bool
names_format line = is_some (format_of (line_words line))

-- what the line of a number is refused for, if it is no want
abbrev pub fault_of : ℕ → WantLine → Option WantsFault
fault_of number (IsWant want) = None
fault_of number OfNoBus = Some (UnknownBus number)
fault_of number OtherForm = Some (Line number)

-- a line that is a want
abbrev pub is_want_line : WantLine → Bool
is_want_line (IsWant want) = true
is_want_line OfNoBus = false
is_want_line OtherForm = false

abbrev pub is_want : List (List ℕ) → List ℕ → Bool
is_want names line = is_want_line (want_line names (line_words line))

-- the lines that are to be wants: all, but the first where it names the format
abbrev pub behind_format : List (List ℕ) → List (List ℕ)
behind_format [] = []
behind_format (line ∷ lines) = if names_format line then lines else line ∷ lines

-- lines that are wants, where the first may name the format
abbrev pub are_wants : List (List ℕ) → List (List ℕ) → Bool
are_wants names lines = list_all (is_want names) (behind_format lines)

-- what a line is refused for that is behind these lines: where there are none it may name the format
abbrev pub fault_behind : List (List ℕ) → List (List ℕ) → List ℕ → Option WantsFault
fault_behind names before line =
    if is_empty before && names_format line then None
    else fault_of (length before + 1) (want_line names (line_words line))

-- the first line that is faulty, and its fault
pub record IsFirstFault (names lines : List (List ℕ)) (fault : WantsFault) : Type 0 where
  pub before : List (List ℕ)
  pub line : List ℕ
  pub after : List (List ℕ)
  pub split : lines ≡ before ++ line ∷ after
  pub wants : are_wants names before ≡ true
  pub faulty : fault_behind names before line ≡ Some fault
