-- How a subscriber asks: lines of words, the first of which may name the format, and each other one a want.
use Rattle.std.specs.Prelude.{ℕ, ◌+◌, List, [], ◌∷◌, codes, position, Option, Some, None, Result, Ok, Err, if◌then◌else◌}
use Rattle.std.specs.Str.{bytes_eq}
use Rattle.byte_forms.specs.Lines.{all_lines}
use Rattle.text_words.specs.Words.{words_of}
use Rattle.text_words.specs.TextLines.{without_return}
use Rattle.subscriber_text.specs.Wants.{Want, WantList}
use Rattle.subscriber_text.specs.declared.fault.WantsFault.{WantsFault}
use Rattle.subscriber_text.specs.declared.fault.WantsFault.TheVariants.{Line, UnknownBus}

-- the words of a line, of which a carriage return at its end is none
abbrev pub line_words : List ℕ → List (List ℕ)
line_words line = words_of (without_return line)

-- the number of a format
abbrev pub format_number : List ℕ → Option ℕ
format_number word = if bytes_eq word (codes "1") then Some 1
    else if bytes_eq word (codes "2") then Some 2 else None

-- the format that a line of these words names
abbrev pub format_of : List (List ℕ) → Option ℕ
format_of (word ∷ number ∷ []) = if bytes_eq word (codes "FORMAT") then format_number number else None
format_of words = None

-- what a line of words is that is to be a want: a want, a want of a bus that is not there, or of another form
pub data WantLine : Type 0 where
  IsWant : Want → WantLine
  OfNoBus : WantLine
  OtherForm : WantLine

-- the want of a bus, by the place of its name
abbrev pub want_at : Option ℕ → Option (List ℕ) → Option (List ℕ) → WantLine
want_at None message signal = OfNoBus
want_at (Some bus) message signal = IsWant (record { bus = bus; message = message; signal = signal })

abbrev pub want_of : List (List ℕ) → List ℕ → Option (List ℕ) → Option (List ℕ) → WantLine
want_of names bus message signal = want_at (position (λ name. bytes_eq name bus) names) message signal

-- behind the word `WANT`: a bus, and a message and a signal of it where they are named
abbrev pub want_named : List (List ℕ) → List (List ℕ) → WantLine
want_named names (bus ∷ []) = want_of names bus None None
want_named names (bus ∷ message ∷ []) = want_of names bus (Some message) None
want_named names (bus ∷ message ∷ signal ∷ []) = want_of names bus (Some message) (Some signal)
want_named names words = OtherForm

abbrev pub want_line : List (List ℕ) → List (List ℕ) → WantLine
want_line names [] = OtherForm
want_line names (word ∷ words) = if bytes_eq word (codes "WANT") then want_named names words else OtherForm

-- the wants of lines, of which the first has this number; or the first line that is faulty, by its number
abbrev pub onto_wants : Want → Result (List Want) WantsFault → Result (List Want) WantsFault
onto_wants want (Ok wants) = Ok (want ∷ wants)
onto_wants want (Err fault) = Err fault

abbrev pub wants_from : WantLine → ℕ → Result (List Want) WantsFault → Result (List Want) WantsFault
wants_from (IsWant want) number later = onto_wants want later
wants_from OfNoBus number later = Err (UnknownBus number)
wants_from OtherForm number later = Err (Line number)

unfoldable pub lines_wants : List (List ℕ) → ℕ → List (List ℕ) → Result (List Want) WantsFault
lines_wants names number [] = Ok []
lines_wants names number (line ∷ lines) = wants_from (want_line names (line_words line)) number
    (lines_wants names (number + 1) lines)

-- What a text asks for, of buses of these names. Without a line that names the format it is 2.
abbrev pub in_format : ℕ → List (List ℕ) → Result (List Want) WantsFault → Result WantList WantsFault
in_format format names (Ok wants) = Ok (record { format = format; names = names; wants = wants })
in_format format names (Err fault) = Err fault

abbrev pub asked_from : List (List ℕ) → Option ℕ → List ℕ → List (List ℕ) → Result WantList WantsFault
asked_from names (Some format) line lines = in_format format names (lines_wants names 2 lines)
asked_from names None line lines = in_format 2 names (lines_wants names 1 (line ∷ lines))

abbrev pub asked_lines : List (List ℕ) → List (List ℕ) → Result WantList WantsFault
asked_lines names [] = in_format 2 names (Ok [])
asked_lines names (line ∷ lines) = asked_from names (format_of (line_words line)) line lines

unfoldable pub asked : List (List ℕ) → List ℕ → Result WantList WantsFault
asked names text = asked_lines names (all_lines text)
