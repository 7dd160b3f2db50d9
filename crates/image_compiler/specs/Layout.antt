-- The words that are written for a bench. The rows of a list are one after another; behind them is, in the same
-- order, what each of them refers to.
use Rattle.std.specs.Prelude.{ℕ, zero, suc, ◌+◌, ◌*◌, Bool, ℤ, pos, negsuc, if◌then◌else◌, List, [], ◌∷◌, ◌++◌, length, take, drop, Option, Some, None, nat_le}
use Rattle.std.specs.Int.{w64, from_le_bytes, cast_unsigned}
use Rattle.multiplex_tree.specs.declared.mark.Range.{Range}
use Rattle.multiplex_tree.specs.declared.mark.Parent.{Parent}
use Rattle.bench_model.specs.declared.database.Kind.{Kind}
use Rattle.bench_model.specs.declared.database.Kind.TheVariants.{Can, J1939, Lin}
use Rattle.bench_model.specs.declared.database.Order.{Order}
use Rattle.bench_model.specs.declared.database.Order.TheVariants.{Intel, Motorola}
use Rattle.bench_model.specs.declared.database.Label.{Label}
use Rattle.bench_model.specs.declared.database.Entry.{Entry}
use Rattle.bench_model.specs.declared.database.Entry.TheVariants.{Logical, Physical, Plain}
use Rattle.bench_model.specs.declared.database.Coding.{Coding}
use Rattle.bench_model.specs.declared.database.Coding.TheVariants.{Scaled, Listed}
use Rattle.bench_model.specs.declared.database.Signal.{Signal}
use Rattle.bench_model.specs.declared.database.Message.{Message}
use Rattle.bench_model.specs.declared.database.Bus.{Bus}
use Rattle.bench_model.specs.declared.database.Bench.{Bench}
use Rattle.image_words.specs.Layout.{word_bytes, header_words, bus_words, message_words, signal_words, label_words, entry_words, padded, length_span}
use Rattle.image_words.specs.Image.{size_weight, order_weight, sign_weight}
use Rattle.image_words.specs.Index.{key_number, key_entries, groups_on}
use Rattle.image_compiler.specs.Size.{total, table_size, text_size, label_behind, entry_behind, signal_behind, parent_behind, message_behind, bus_behind, image_size}

-- n words of eight bytes each
unfoldable pub blocks : ℕ → List ℕ → List ℕ
blocks zero bytes = []
blocks (suc n) bytes = from_le_bytes w64 (take word_bytes bytes) ∷ blocks n (drop word_bytes bytes)

-- a text and zeros up to the end of its last word
unfoldable pub text_words : List ℕ → List ℕ
text_words text = blocks (text_size text) (padded text)

abbrev pub optional_text_words : Option (List ℕ) → List ℕ
optional_text_words None = []
optional_text_words (Some text) = text_words text

abbrev pub reference : ℕ → List ℕ → ℕ
reference place text = place * length_span + length text

-- no text is 0
abbrev pub optional_reference : ℕ → Option (List ℕ) → ℕ
optional_reference place None = 0
optional_reference place (Some text) = reference place text

-- the rows of a list, where what they refer to begins at a place, one behind another
unfoldable pub rows_from : {X : Type 0} → (ℕ → X → List ℕ) → (X → ℕ) → ℕ → List X → List ℕ
rows_from row behind place [] = []
rows_from row behind place (x ∷ xs) = row place x ++ rows_from row behind (place + behind x) xs

-- what they refer to
unfoldable pub parts_from : {X : Type 0} → (ℕ → X → List ℕ) → (X → ℕ) → ℕ → List X → List ℕ
parts_from parts behind place [] = []
parts_from parts behind place (x ∷ xs) = parts place x ++ parts_from parts behind (place + behind x) xs

-- the rows of one width at a place, and behind them what they refer to
abbrev pub table_words : {X : Type 0} → ℕ → (ℕ → X → List ℕ) → (ℕ → X → List ℕ) → (X → ℕ) → ℕ → List X → List ℕ
table_words width row parts behind place xs =
    rows_from row behind (place + width * length xs) xs ++ parts_from parts behind (place + width * length xs) xs

-- the low 64 bits of a raw value, and whether it is negative
abbrev pub sign_flag : ℤ → ℕ
sign_flag (pos n) = 0
sign_flag (negsuc n) = 1

abbrev pub label_row : ℕ → Label → List ℕ
label_row place l = cast_unsigned w64 l.raw ∷ sign_flag l.raw ∷ reference place l.text ∷ []

abbrev pub label_parts : ℕ → Label → List ℕ
label_parts place l = text_words l.text

abbrev pub entry_row : ℕ → Entry → List ℕ
entry_row place (Logical raw text) = 0 ∷ raw ∷ raw ∷ 0 ∷ 0 ∷ 0 ∷ optional_reference place text ∷ []
entry_row place (Physical low high scale unit) =
    1 ∷ low ∷ high ∷ cast_unsigned w64 scale.factor ∷ cast_unsigned w64 scale.offset ∷ scale.k ∷ reference place unit ∷ []
entry_row place Plain = 2 ∷ 0 ∷ 0 ∷ 0 ∷ 0 ∷ 0 ∷ 0 ∷ []

abbrev pub entry_parts : ℕ → Entry → List ℕ
entry_parts place (Logical raw text) = optional_text_words text
entry_parts place (Physical low high scale unit) = text_words unit
entry_parts place Plain = []

-- the last seven words of a signal's row: the unit is before the labels
abbrev pub coding_row : ℕ → Coding → List ℕ
coding_row place (Scaled scale unit labels) =
    0 ∷ (place + text_size unit) ∷ length labels ∷ cast_unsigned w64 scale.factor ∷ cast_unsigned w64 scale.offset ∷ scale.k
    ∷ reference place unit ∷ []
coding_row place (Listed entries) = 1 ∷ place ∷ length entries ∷ 0 ∷ 0 ∷ 0 ∷ 0 ∷ []

abbrev pub coding_parts : ℕ → Coding → List ℕ
coding_parts place (Scaled scale unit labels) =
    text_words unit ++ table_words label_words label_row label_parts label_behind (place + text_size unit) labels
coding_parts place (Listed entries) = table_words entry_words entry_row entry_parts entry_behind place entries

abbrev pub order_flag : Order → ℕ
order_flag Intel = 0
order_flag Motorola = 1

abbrev pub flag : Bool → ℕ
flag b = if b then 1 else 0

abbrev pub shape_word : Signal → ℕ
shape_word s = s.start + s.size * size_weight + order_flag s.order * order_weight + flag s.signed * sign_weight

-- the parent's place in the message and one more, the place of its ranges, and their number
abbrev pub parent_row : ℕ → Option Parent → List ℕ
parent_row place None = 0 ∷ place ∷ 0 ∷ []
parent_row place (Some p) = (p.signal + 1) ∷ place ∷ length p.ranges ∷ []

unfoldable pub ranges_words : List Range → List ℕ
ranges_words [] = []
ranges_words (r ∷ rs) = r.low ∷ r.high ∷ ranges_words rs

abbrev pub parent_parts : ℕ → Option Parent → List ℕ
parent_parts place None = []
parent_parts place (Some p) = ranges_words p.ranges

abbrev pub signal_row : ℕ → ℕ → Signal → Option Parent → List ℕ
signal_row place ranges s parent =
    reference place s.name ∷ shape_word s ∷ (parent_row ranges parent ++ coding_row (place + text_size s.name) s.coding)

abbrev pub signal_parts : ℕ → Signal → List ℕ
signal_parts place s = text_words s.name ++ coding_parts (place + text_size s.name) s.coding

-- the rows of the signals of a message, each with its parent
unfoldable pub signal_rows : ℕ → ℕ → List Signal → List (Option Parent) → List ℕ
signal_rows place ranges [] parents = []
signal_rows place ranges (s ∷ ss) [] = []
signal_rows place ranges (s ∷ ss) (p ∷ parents) =
    signal_row place ranges s p ++ signal_rows (place + signal_behind s) (ranges + parent_behind p) ss parents

-- behind the rows is what the signals refer to, and behind that the ranges of the parents
abbrev pub signals_words : ℕ → Message → List ℕ
signals_words place m =
    let first = place + signal_words * length m.signals in
    let ranges = first + total signal_behind m.signals in
    signal_rows first ranges m.signals m.tree.parents
    ++ (parts_from signal_parts signal_behind first m.signals
    ++ parts_from parent_parts parent_behind ranges m.tree.parents)

abbrev pub message_row : ℕ → Message → List ℕ
message_row place m =
    key_number m.key ∷ reference place m.name ∷ m.length ∷ length m.signals ∷ (place + text_size m.name) ∷ []

abbrev pub message_parts : ℕ → Message → List ℕ
message_parts place m = text_words m.name ++ signals_words (place + text_size m.name) m

-- numbers in ascending order
unfoldable pub inserted : ℕ → List ℕ → List ℕ
inserted n [] = n ∷ []
inserted n (x ∷ xs) = if nat_le n x then n ∷ x ∷ xs else x ∷ inserted n xs

unfoldable pub ascending : List ℕ → List ℕ
ascending [] = []
ascending (x ∷ xs) = inserted x (ascending xs)

abbrev pub kind_number : Kind → ℕ
kind_number Can = 0
kind_number J1939 = 1
kind_number Lin = 2

-- behind the name of a bus are its messages, the index by keys and the index by groups
abbrev pub bus_row : ℕ → Bus → List ℕ
bus_row place bus =
    let ms = bus.database.messages in
    let messages = place + text_size bus.name in
    let keys = messages + table_size message_words message_behind ms in
    kind_number bus.kind ∷ reference place bus.name ∷ length ms ∷ messages ∷ keys ∷ length (groups_on bus.kind ms)
    ∷ (keys + length ms) ∷ []

abbrev pub bus_parts : ℕ → Bus → List ℕ
bus_parts place bus =
    let ms = bus.database.messages in
    text_words bus.name
    ++ (table_words message_words message_row message_parts message_behind (place + text_size bus.name) ms
    ++ (ascending (key_entries 0 ms) ++ ascending (groups_on bus.kind ms)))

unfoldable pub layout : Bench → List ℕ
layout bench =
    image_size bench ∷ length bench.buses
    ∷ table_words bus_words bus_row bus_parts bus_behind header_words bench.buses
