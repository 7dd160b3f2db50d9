-- How many words the image of a bench takes: its rows, its indexes and its texts, of which none is shared.
use Rattle.std.specs.Prelude.{ℕ, ◌+◌, ◌*◌, List, [], ◌∷◌, length, Option, Some, None}
use Rattle.multiplex_tree.specs.declared.mark.Parent.{Parent}
use Rattle.bench_model.specs.declared.database.Label.{Label}
use Rattle.bench_model.specs.declared.database.Entry.{Entry}
use Rattle.bench_model.specs.declared.database.Entry.TheVariants.{Logical, Physical, Plain}
use Rattle.bench_model.specs.declared.database.Coding.{Coding}
use Rattle.bench_model.specs.declared.database.Coding.TheVariants.{Scaled, Listed}
use Rattle.bench_model.specs.declared.database.Signal.{Signal}
use Rattle.bench_model.specs.declared.database.Message.{Message}
use Rattle.bench_model.specs.declared.database.Bus.{Bus}
use Rattle.bench_model.specs.declared.database.Bench.{Bench}
use Rattle.image_words.specs.Layout.{words_for, header_words, bus_words, message_words, signal_words, range_words, label_words, entry_words}
use Rattle.image_words.specs.Index.{groups_on}

-- the sum of the sizes of all
unfoldable pub total : {X : Type 0} → (X → ℕ) → List X → ℕ
total size [] = 0
total size (x ∷ xs) = size x + total size xs

-- rows of one width, and what they refer to
abbrev pub table_size : {X : Type 0} → ℕ → (X → ℕ) → List X → ℕ
table_size width behind xs = total (λ x. width + behind x) xs

abbrev pub text_size : List ℕ → ℕ
text_size text = words_for (length text)

abbrev pub optional_text_size : Option (List ℕ) → ℕ
optional_text_size None = 0
optional_text_size (Some text) = text_size text

-- what a row of each kind refers to: a label its text, an entry its text or unit
abbrev pub label_behind : Label → ℕ
label_behind l = text_size l.text

abbrev pub entry_behind : Entry → ℕ
entry_behind (Logical raw text) = optional_text_size text
entry_behind (Physical low high scale unit) = text_size unit
entry_behind Plain = 0

-- a scaling its unit and its labels, a list its entries
abbrev pub coding_behind : Coding → ℕ
coding_behind (Scaled scale unit labels) = text_size unit + table_size label_words label_behind labels
coding_behind (Listed entries) = table_size entry_words entry_behind entries

-- a signal its name and its coding
abbrev pub signal_behind : Signal → ℕ
signal_behind s = text_size s.name + coding_behind s.coding

-- and the ranges of its parent, where it has one
abbrev pub parent_behind : Option Parent → ℕ
parent_behind None = 0
parent_behind (Some p) = range_words * length p.ranges

-- a message its name and its signals
abbrev pub message_behind : Message → ℕ
message_behind m =
    text_size m.name + (table_size signal_words signal_behind m.signals + total parent_behind m.tree.parents)

-- a bus its name, its messages, a word for each of them in the index by keys, and on a J1939 bus one more for each
-- extended message in the index by groups
abbrev pub bus_behind : Bus → ℕ
bus_behind bus =
    let ms = bus.database.messages in
    text_size bus.name + (table_size message_words message_behind ms + (length ms + length (groups_on bus.kind ms)))

abbrev pub image_size : Bench → ℕ
image_size bench = header_words + table_size bus_words bus_behind bench.buses
