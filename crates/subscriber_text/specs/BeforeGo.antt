-- What a subscriber sends before it is sent anything: lines of wants, and behind them the line `GO`.
use Rattle.std.specs.Prelude.{ℕ, ◌==◌, ◌&&◌, ◌||◌, Bool, false, List, [], ◌∷◌, codes, flat_map, length, map, nat_lt, nat_le, Option, Some, None, Result, Ok, Err, if◌then◌else◌}
use Rattle.std.specs.List.{list_any}
use Rattle.std.specs.Option.{option_map}
use Rattle.std.specs.Str.{bytes_eq}
use Rattle.subscriber_text.specs.Wants.{WantList}
use Rattle.subscriber_text.specs.WantLines.{line_words, asked_lines}
use Rattle.subscriber_text.specs.Parts.{fed_lines, without_feed}
use Rattle.subscriber_text.specs.declared.fault.WantsFault.{WantsFault}
use Rattle.subscriber_text.specs.declared.fault.WantsFault.TheVariants.{Line}
use Rattle.subscriber_text.specs.declared.before_go.Asking.{Asking}
use Rattle.subscriber_text.specs.declared.before_go.Asking.TheVariants.{Go, Open, Gone, Long}

-- the most bytes up to the end of that line
abbrev pub before_go_limit : ℕ
before_go_limit = 65536

-- `GO` is the only word
abbrev pub is_go_alone : List (List ℕ) → Bool
is_go_alone [] = false
is_go_alone (word ∷ []) = bytes_eq word (codes "GO")
is_go_alone (word ∷ more ∷ words) = false

abbrev pub has_feed : List ℕ → Bool
has_feed line = list_any (λ b. b == 10) line

-- Whether a line is that one: it ends in its line feed, or is the last line. A carriage return at its
-- end is dropped.
abbrev pub is_go : Bool → List ℕ → Bool
is_go last line = (has_feed line || last) && is_go_alone (line_words (without_feed line))

-- the lines before the first such line, where there is one
unfoldable pub before_go : Bool → List (List ℕ) → Option (List (List ℕ))
before_go last [] = None
before_go last (line ∷ lines) =
    if is_go last line then Some [] else option_map (λ before. line ∷ before) (before_go last lines)

-- a last line without its line feed counts where the input has ended with fewer bytes than may come
abbrev pub counts_last : List ℕ → Bool → Bool
counts_last bytes ended = ended && nat_lt (length bytes) before_go_limit

-- the bytes of lines
abbrev pub bytes_of : List (List ℕ) → List ℕ
bytes_of lines = flat_map (λ line. line) lines

-- What the first bytes of an input say, 65,536 at most: these lines are before `GO`; more bytes are to come;
-- the input has ended without that line; or as many bytes as may come were sent without it, the last of them in
-- the line of this number, from 1.
pub data Heard : Type 0 where
  Before : List (List ℕ) → Heard
  Awaited : Heard
  Ended : Heard
  Limit : ℕ → Heard

abbrev pub without_go : List ℕ → Bool → Heard
without_go bytes ended =
    if nat_le before_go_limit (length bytes) then Limit (length (fed_lines bytes))
    else if ended then Ended else Awaited

abbrev pub heard_of : Option (List (List ℕ)) → List ℕ → Bool → Heard
heard_of (Some before) bytes ended = Before before
heard_of None bytes ended = without_go bytes ended

unfoldable pub heard : List ℕ → Bool → Heard
heard bytes ended = heard_of (before_go (counts_last bytes ended) (fed_lines bytes)) bytes ended

-- how the code tells it: of the wants it gives the number of their bytes
abbrev pub asking_of : Heard → Asking
asking_of (Before lines) = Go (length (bytes_of lines))
asking_of Awaited = Open
asking_of Ended = Gone
asking_of (Limit n) = Long n

abbrev pub wants_before_go : List ℕ → Bool → Asking
wants_before_go bytes ended = asking_of (heard bytes ended)

-- What a subscriber asks of buses of these names, as far as the bytes read so far say: wants; or it is refused
-- for a line, the first faulty one before `GO` or the one that goes past the limit; or more bytes are to come; or
-- the input has ended before it asked.
pub data Request : Type 0 where
  Wanted : WantList → Request
  Refused : WantsFault → Request
  Unfinished : Request
  Unasked : Request

abbrev pub request_of_wants : Result WantList WantsFault → Request
request_of_wants (Ok wants) = Wanted wants
request_of_wants (Err fault) = Refused fault

abbrev pub request_of : List (List ℕ) → Heard → Request
request_of names (Before lines) = request_of_wants (asked_lines names (map without_feed lines))
request_of names Awaited = Unfinished
request_of names Ended = Unasked
request_of names (Limit n) = Refused (Line n)

abbrev pub request : List (List ℕ) → List ℕ → Bool → Request
request names bytes ended = request_of names (heard bytes ended)
