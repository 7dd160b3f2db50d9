-- The part of a text that is of one bus.
use Rattle.std.specs.Prelude.{◌≡◌, ℕ, ◌<◌, ◌==◌, ◌&&◌, Bool, true, false, not, List, [], ◌∷◌, ◌++◌, codes, filter, length, slice_index_or, Option, Some, None, if◌then◌else◌}
use Rattle.std.specs.List.{list_all}
use Rattle.std.specs.Str.{bytes_eq}
use Rattle.byte_forms.specs.Lines.{onto_first}
use Rattle.bench_model.specs.declared.reading.SignalValue.{SignalValue}
use Rattle.bench_model.specs.declared.reading.Item.{Item}
use Rattle.bench_model.specs.declared.reading.Item.TheVariants as item
use Rattle.text_words.specs.Words.{is_empty, is_blank, words_of}
use Rattle.subscriber_text.specs.Wants.{WantList, wants_bus}
use Rattle.subscriber_text.specs.ItemText.{header_text, message_of, signals_of, bus_name, item_text, items_text}

-- the lines of a text, each with its line feed; the last one has none where the text does not end in one
unfoldable pub fed_lines : List ℕ → List (List ℕ)
fed_lines [] = []
fed_lines (b ∷ bs) = if b == 10 then (10 ∷ []) ∷ fed_lines bs else onto_first b (fed_lines bs)

-- the words of such a line: its line feed belongs to none of them
unfoldable pub without_feed : List ℕ → List ℕ
without_feed [] = []
without_feed (b ∷ bs) = if b == 10 then [] else b ∷ without_feed bs

abbrev pub first_word : List (List ℕ) → List ℕ
first_word [] = []
first_word (word ∷ words) = word

abbrev pub second_word : List (List ℕ) → List ℕ
second_word [] = []
second_word (word ∷ words) = first_word words

-- a line of a signal, which belongs to the line before it that is none
abbrev pub is_signal_line : List ℕ → Bool
is_signal_line line = bytes_eq (first_word (words_of (without_feed line))) (codes "s")

-- a line whose second word is the bus's name
abbrev pub is_line_of : List ℕ → List ℕ → Bool
is_line_of bus line = bytes_eq (second_word (words_of (without_feed line))) bus

-- whether a line belongs to a bus: one of a signal does where the line before it does
abbrev pub belongs : List ℕ → Bool → List ℕ → Bool
belongs bus before line = if is_signal_line line then before else is_line_of bus line

-- the lines that belong to a bus, behind a line that does or doesn't
unfoldable pub bus_lines : List ℕ → Bool → List (List ℕ) → List ℕ
bus_lines bus before [] = []
bus_lines bus before (line ∷ lines) =
    (if belongs bus before line then line else []) ++ bus_lines bus (belongs bus before line) lines

-- the part of a text of items that is of a bus
abbrev pub part_of : List ℕ → List ℕ → List ℕ
part_of text bus = bus_lines bus false (fed_lines text)

-- each of the lines, behind a line that is in the parts of these buses, is in the part of a wanted bus
unfoldable pub AreOfWanted : WantList → (ℕ → Bool) → List (List ℕ) → Type 0
AreOfWanted w before [] = Unit {0}
AreOfWanted w before (line ∷ lines) =
    ((bus : ℕ) × (wants_bus w bus ≡ true) × (belongs (bus_name w bus) (before bus) line ≡ true))
    × AreOfWanted w (λ bus. belongs (bus_name w bus) (before bus) line) lines

-- each line of a text is in the part of a wanted bus
abbrev pub IsOfWantedBuses : WantList → List ℕ → Type 0
IsOfWantedBuses w text = AreOfWanted w (λ bus. false) (fed_lines text)

-- a session's text is the header of its format, and then this rest
abbrev pub IsBehindHeader : WantList → List ℕ → List ℕ → Type 0
IsBehindHeader w sent rest = sent ≡ header_text w ++ rest

-- the bus of an item
abbrev pub bus_of : Item → ℕ
bus_of (item.Start bus number turn) = bus
bus_of (item.Reading reading) = reading.bus
bus_of (item.Gap bus missed) = bus
bus_of (item.End bus number) = bus

-- no line feed is in a text
abbrev pub no_feed : List ℕ → Bool
no_feed bytes = list_all (λ b. not (b == 10)) bytes

-- a text is one word of a line
abbrev pub is_one_word : List ℕ → Bool
is_one_word bytes = not (is_empty bytes) && (list_all (λ b. not (is_blank b)) bytes && no_feed bytes)

-- the names of the buses are different words
pub record AreBusNames (names : List (List ℕ)) : Type 0 where
  pub words : (bus : ℕ) → bus < length names → is_one_word (slice_index_or names bus []) ≡ true
  pub differ : (a b : ℕ) → a < length names → b < length names
      → slice_index_or names a [] ≡ slice_index_or names b [] → a ≡ b

-- no line feed is in the names of a record's message and signals
abbrev pub name_is_plain : Option (List ℕ) → Bool
name_is_plain None = true
name_is_plain (Some name) = no_feed name

abbrev pub signals_are_plain : List SignalValue → Bool
signals_are_plain signals = list_all (λ s. no_feed s.name) signals

abbrev pub is_plainly_named : Item → Bool
is_plainly_named (item.Start bus number turn) = true
is_plainly_named (item.Reading r) = name_is_plain (message_of r.body) && signals_are_plain (signals_of r.body)
is_plainly_named (item.Gap bus missed) = true
is_plainly_named (item.End bus number) = true

-- the items of a bus
abbrev pub items_of : List Item → ℕ → List Item
items_of items bus = filter (λ i. bus_of i == bus) items

-- a text is a prefix of that of the first of these items, and empty where there is none
abbrev pub IsPrefixOfNext : WantList → List Item → List ℕ → Type 0
IsPrefixOfNext w [] last = last ≡ []
IsPrefixOfNext w (i ∷ items) last = (rest : List ℕ) × (item_text w i ≡ last ++ rest)

-- a text is that of the first items, and of the one after them a prefix, if there is one
pub record IsCutText (w : WantList) (items : List Item) (sent : List ℕ) : Type 0 where
  pub whole : List Item
  pub others : List Item
  pub last : List ℕ
  pub split : items ≡ whole ++ others
  pub joined : sent ≡ items_text w whole ++ last
  pub cut : IsPrefixOfNext w others last
