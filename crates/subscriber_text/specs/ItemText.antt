-- The text of items: each is whole lines, of words parted by single blanks.
use Rattle.std.specs.Prelude.{ℕ, ◌==◌, Bool, ◌&&◌, ◌||◌, ◌++◌, List, [], ◌∷◌, codes, filter, flat_map, nat_lt, length, slice_index_or, Option, Some, None, if◌then◌else◌}
use Rattle.std.specs.Fmt.{decimal, signed_decimal}
use Rattle.byte_forms.specs.Bytes.{line_feed, space, hash}
use Rattle.byte_forms.specs.Hexadecimal.{hex_digits}
use Rattle.exact_scale.specs.ShortestText.{decimal_text}
use Rattle.bench_model.specs.declared.database.Key.{Key}
use Rattle.bench_model.specs.declared.reading.SignalValue.{SignalValue}
use Rattle.bench_model.specs.declared.reading.CutCause.{CutCause}
use Rattle.bench_model.specs.declared.reading.CutCause.TheVariants as cause
use Rattle.bench_model.specs.declared.reading.Missed.{Missed}
use Rattle.bench_model.specs.declared.reading.Body.{Body}
use Rattle.bench_model.specs.declared.reading.Body.TheVariants as body
use Rattle.bench_model.specs.declared.reading.Reading.{Reading}
use Rattle.bench_model.specs.declared.reading.Item.{Item}
use Rattle.bench_model.specs.declared.reading.Item.TheVariants as item
use Rattle.text_words.specs.SpacedWords.{text_of_words}
use Rattle.subscriber_text.specs.Bytes.{quote, backslash, small_x, delete}
use Rattle.subscriber_text.specs.Wants.{WantList, wants_bus, wants_record, wants_signal}

-- a line of words
abbrev pub line_of : List (List ℕ) → List ℕ
line_of words = text_of_words words ++ line_feed ∷ []

-- two hexadecimal digits a byte
abbrev pub hex_bytes : List ℕ → List ℕ
hex_bytes bytes = flat_map (hex_digits 2) bytes

-- 8 digits of an extended identifier, 3 of another
abbrev pub key_text : Key → List ℕ
key_text key = if key.extended then hex_digits 8 key.id else hex_digits 3 key.id

-- a byte inside quotation marks: `"` and the backslash are written behind a backslash, and a control character
-- is written as a backslash, `x` and its two digits
abbrev pub quoted_byte : ℕ → List ℕ
quoted_byte b =
    if b == quote || b == backslash then backslash ∷ b ∷ []
    else if nat_lt b space || b == delete then backslash ∷ small_x ∷ hex_digits 2 b else b ∷ []

abbrev pub quoted : List ℕ → List ℕ
quoted text = quote ∷ (flat_map quoted_byte text ++ quote ∷ [])

-- the label's word, where there is a label
abbrev pub label_words : Option (List ℕ) → List (List ℕ)
label_words None = []
label_words (Some label) = quoted label ∷ []

-- the line of a signal
abbrev pub signal_line : SignalValue → List ℕ
signal_line s =
    line_of (codes "s" ∷ s.name ∷ signed_decimal s.raw ∷ decimal_text s.value.num s.value.k
    ∷ quoted s.unit ∷ label_words s.label)

abbrev pub cause_text : CutCause → List ℕ
cause_text cause.Late = codes "late"
cause_text cause.Again = codes "again"
cause_text cause.Order = codes "order"
cause_text cause.Abort = codes "abort"
cause_text cause.End = codes "end"

-- the name of what matched, or `-`
abbrev pub name_or_dash : Option (List ℕ) → List ℕ
name_or_dash None = codes "-"
name_or_dash (Some name) = name

-- the name of the message that a record is of, where one matched
abbrev pub message_of : Body → Option (List ℕ)
message_of (body.Message name signals) = Some name
message_of (body.Unmatched key bytes) = None
message_of (body.Remote key) = None
message_of (body.Error id) = None
message_of body.Bad = None
message_of (body.Transport pgn sa da bytes name signals) = name
message_of (body.Cut pgn sa da cause) = None

-- the signals of a record
abbrev pub signals_of : Body → List SignalValue
signals_of (body.Message name signals) = signals
signals_of (body.Unmatched key bytes) = []
signals_of (body.Remote key) = []
signals_of (body.Error id) = []
signals_of body.Bad = []
signals_of (body.Transport pgn sa da bytes name signals) = signals
signals_of (body.Cut pgn sa da cause) = []

-- the words that records begin with: the kind, the bus, the number and the version; and, but for a bad line, the stamp
abbrev pub begin : List ℕ → List ℕ → Reading → List (List ℕ) → List (List ℕ)
begin letter bus r words = letter ∷ bus ∷ decimal r.number ∷ decimal r.version ∷ words

abbrev pub begin_stamped : List ℕ → List ℕ → Reading → List (List ℕ) → List (List ℕ)
begin_stamped letter bus r words = begin letter bus r (decimal r.micros ∷ words)

-- the words of a record's first line, on the bus of this name
abbrev pub record_words : List ℕ → Reading → Body → List (List ℕ)
record_words bus r (body.Message name signals) = begin_stamped (codes "m") bus r (name ∷ [])
record_words bus r (body.Unmatched key bytes) =
    begin_stamped (codes "u") bus r ((key_text key ++ hash ∷ hex_bytes bytes) ∷ [])
record_words bus r (body.Remote key) = begin_stamped (codes "r") bus r (key_text key ∷ [])
record_words bus r (body.Error id) = begin_stamped (codes "e") bus r (hex_digits 8 id ∷ [])
record_words bus r body.Bad = begin (codes "x") bus r []
record_words bus r (body.Transport pgn sa da bytes name signals) =
    begin_stamped (codes "t") bus r (decimal pgn ∷ decimal sa ∷ decimal da ∷ hex_bytes bytes
    ∷ name_or_dash name ∷ [])
record_words bus r (body.Cut pgn sa da cause) =
    begin_stamped (codes "c") bus r (decimal pgn ∷ decimal sa ∷ decimal da ∷ cause_text cause ∷ [])

-- the lines of the signals of a record that are wanted
abbrev pub signal_lines : WantList → ℕ → Option (List ℕ) → List SignalValue → List ℕ
signal_lines w bus message signals =
    flat_map signal_line (filter (λ s. wants_signal w bus message s.name) signals)

-- the text of a record that is wanted, on the bus of this name
abbrev pub record_text : WantList → List ℕ → Reading → List ℕ
record_text w bus r =
    line_of (record_words bus r r.body) ++ signal_lines w r.bus (message_of r.body) (signals_of r.body)

-- the stamps and the versions of the first and the last record of a gap
abbrev pub stamps_of : Missed → List (List ℕ)
stamps_of m =
    decimal m.first_micros ∷ decimal m.last_micros ∷ decimal m.first_version ∷ decimal m.last_version ∷ []

-- the words of a gap, which tell its stamps and versions in format 2
abbrev pub gap_words : ℕ → List ℕ → Missed → List (List ℕ)
gap_words format bus m =
    codes "g" ∷ bus ∷ decimal m.first ∷ decimal m.count ∷ (if format == 2 then stamps_of m else [])

-- the name of the bus at a place
abbrev pub bus_name : WantList → ℕ → List ℕ
bus_name w bus = slice_index_or w.names bus []

-- whether a record is wanted
abbrev pub wants_reading : WantList → Reading → Bool
wants_reading w r = nat_lt r.bus (length w.names) && wants_record w r.bus (message_of r.body)

-- The text of an item; it is empty where the item is not wanted. Starts, gaps and ends are wanted of each bus of
-- which anything is wanted.
abbrev pub item_text : WantList → Item → List ℕ
item_text w (item.Start bus number turn) =
    if wants_bus w bus then line_of (codes "start" ∷ bus_name w bus ∷ decimal number ∷ []) else []
item_text w (item.Reading r) =
    if wants_reading w r then record_text w (bus_name w r.bus) r else []
item_text w (item.Gap bus missed) =
    if wants_bus w bus then line_of (gap_words w.format (bus_name w bus) missed) else []
item_text w (item.End bus number) =
    if wants_bus w bus then line_of (codes "end" ∷ bus_name w bus ∷ decimal number ∷ []) else []

abbrev pub items_text : WantList → List Item → List ℕ
items_text w items = flat_map (item_text w) items

-- what a session's text begins with: in format 2 a line that names it
abbrev pub header_text : WantList → List ℕ
header_text w = if w.format == 2 then codes "sigserve 2" ++ line_feed ∷ [] else []
