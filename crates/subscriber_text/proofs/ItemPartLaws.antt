-- The text of each item is nothing, or a line that names its bus and lines of signals; so a text of items is parted by buses.
use Rattle.std.proofs.Common.{◌≡◌, ℕ, ◌<◌, Bool, true, false, cond, List, [], ◌∷◌, ◌++◌, length, refl, sym, ap, ◌∙◌, append_assoc, inl, inr, ◌⊎◌, Option, Some, None}
use Rattle.std.specs.Prelude.{◌==◌, nat_lt, flat_map, filter, codes, slice_index_or}
use Rattle.std.specs.List.{list_all}
use Rattle.std.specs.Fmt.{decimal, signed_decimal}
use Rattle.std.specs.Str.{bytes_eq}
use Rattle.std.proofs.lemmas.Bool.{cases_Bool, and_parts, eqb-true, eq-eqb, ltb-true}
use Rattle.std.proofs.lemmas.List.{append-nil}
use Rattle.byte_forms.specs.Hexadecimal.{hex_digits}
use Rattle.exact_scale.specs.ShortestText.{decimal_text}
use Rattle.bench_model.specs.declared.database.Key.{Key}
use Rattle.bench_model.specs.declared.reading.SignalValue.{SignalValue}
use Rattle.bench_model.specs.declared.reading.CutCause.{CutCause}
use Rattle.bench_model.specs.declared.reading.CutCause.TheVariants as cause
use Rattle.bench_model.specs.declared.reading.Missed.{Missed}
use Rattle.bench_model.specs.declared.reading.Body.{Body}
use Rattle.bench_model.specs.declared.reading.Body.TheVariants as body
use Rattle.bench_model.specs.declared.reading.Reading.{Reading}
use Rattle.bench_model.specs.declared.reading.Item.{Item}
use Rattle.bench_model.specs.declared.reading.Item.TheVariants as item
use Rattle.text_words.specs.Words.{words_of}
use Rattle.subscriber_text.specs.Wants.{WantList, wants_by, wants_bus, names_bus, wants_record, wants_signal}
use Rattle.text_words.specs.SpacedWords.{behind_blank}
use Rattle.subscriber_text.specs.ItemText.{line_of, hex_bytes, key_text, quoted, label_words, signal_line, cause_text, name_or_dash, message_of, signals_of, record_words, signal_lines, record_text, stamps_of, gap_words, bus_name, wants_reading, item_text, items_text}
use Rattle.subscriber_text.specs.Parts.{fed_lines, first_word, bus_lines, no_feed, is_one_word, AreBusNames, name_is_plain, signals_are_plain, is_plainly_named, bus_of, items_of}
use Rattle.subscriber_text.proofs.FeedLaws.{plain-append, decimal-plain, signed-plain, hex-plain, hex_bytes-plain, quoted-plain, decimal_text-plain, words-plain}
use Rattle.subscriber_text.proofs.PartLaws.{word_plain, words-first, bytes_eq-refl, bytes_eq-true, lines-signal, lines-head}

-- the line of a signal
label-plain : (label : Option (List ℕ)) → list_all no_feed (label_words label) ≡ true
label-plain None = refl
label-plain (Some label) = rw (quoted-plain label) refl

pub signal-plain : (s : SignalValue) → no_feed s.name ≡ true
    → no_feed (codes "s" ++ flat_map behind_blank (s.name ∷ signed_decimal s.raw ∷ decimal_text s.value.num s.value.k ∷ quoted s.unit ∷ label_words s.label)) ≡ true
signal-plain s named =
    plain-append (codes "s") (flat_map behind_blank (s.name ∷ signed_decimal s.raw ∷ decimal_text s.value.num s.value.k ∷ quoted s.unit ∷ label_words s.label)) refl
    (words-plain (s.name ∷ signed_decimal s.raw ∷ decimal_text s.value.num s.value.k ∷ quoted s.unit ∷ label_words s.label)
    (rw (named, signed-plain s.raw, decimal_text-plain s.value.num s.value.k, quoted-plain s.unit) (label-plain s.label)))

-- the lines of signals go with the line before them
signals-part : (bus : List ℕ) (taken : Bool) (ss : List SignalValue) (rest : List ℕ) → signals_are_plain ss ≡ true
    → bus_lines bus taken (fed_lines (flat_map signal_line ss ++ rest)) ≡ cond taken (flat_map signal_line ss) [] ++ bus_lines bus taken (fed_lines rest)
signals-part bus true [] rest p = refl
signals-part bus false [] rest p = refl
signals-part bus true (s ∷ ss) rest p =
    let parts = and_parts (no_feed s.name) (signals_are_plain ss) p in
    ap (λ xs. bus_lines bus true (fed_lines xs)) (append_assoc (signal_line s) (flat_map signal_line ss) rest)
    ∙ lines-signal bus true (codes "s" ++ flat_map behind_blank (s.name ∷ signed_decimal s.raw ∷ decimal_text s.value.num s.value.k ∷ quoted s.unit ∷ label_words s.label)) (flat_map signal_line ss ++ rest) (signal-plain s parts.0)
    (ap (λ words. bytes_eq (first_word words) (codes "s")) (words-first (codes "s") (s.name ++ flat_map behind_blank (signed_decimal s.raw ∷ decimal_text s.value.num s.value.k ∷ quoted s.unit ∷ label_words s.label)) refl))
    ∙ ap (λ xs. signal_line s ++ xs) (signals-part bus true ss rest parts.1) ∙ sym (append_assoc (signal_line s) (flat_map signal_line ss) (bus_lines bus true (fed_lines rest)))
signals-part bus false (s ∷ ss) rest p =
    let parts = and_parts (no_feed s.name) (signals_are_plain ss) p in
    ap (λ xs. bus_lines bus false (fed_lines xs)) (append_assoc (signal_line s) (flat_map signal_line ss) rest)
    ∙ lines-signal bus false (codes "s" ++ flat_map behind_blank (s.name ∷ signed_decimal s.raw ∷ decimal_text s.value.num s.value.k ∷ quoted s.unit ∷ label_words s.label)) (flat_map signal_line ss ++ rest) (signal-plain s parts.0)
    (ap (λ words. bytes_eq (first_word words) (codes "s")) (words-first (codes "s") (s.name ++ flat_map behind_blank (signed_decimal s.raw ∷ decimal_text s.value.num s.value.k ∷ quoted s.unit ∷ label_words s.label)) refl))
    ∙ signals-part bus false ss rest parts.1

joined : (own : Bool) (line signals rest : List ℕ) → cond own line [] ++ (cond own signals [] ++ rest) ≡ cond own (line ++ signals) [] ++ rest
joined true line signals rest = sym (append_assoc line signals rest)
joined false line signals rest = refl

-- a line that names a bus, and lines of signals
pub block-part : (bus : List ℕ) (taken own : Bool) (letter name number : List ℕ) (words : List (List ℕ)) (ss : List SignalValue) (rest : List ℕ)
    → is_one_word letter ≡ true → bytes_eq letter (codes "s") ≡ false → is_one_word name ≡ true → list_all no_feed (number ∷ words) ≡ true → signals_are_plain ss ≡ true → bytes_eq name bus ≡ own
    → bus_lines bus taken (fed_lines ((line_of (letter ∷ name ∷ number ∷ words) ++ flat_map signal_line ss) ++ rest))
    ≡ cond own (line_of (letter ∷ name ∷ number ∷ words) ++ flat_map signal_line ss) [] ++ bus_lines bus own (fed_lines rest)
block-part bus taken own letter name number words ss rest word other named plain signals same =
    let line_plain : no_feed (letter ++ flat_map behind_blank (name ∷ number ∷ words)) ≡ true =
    plain-append letter (flat_map behind_blank (name ∷ number ∷ words)) (word_plain letter word) (words-plain (name ∷ number ∷ words) (rw (word_plain name named) plain)) in
    let first : words_of (letter ++ flat_map behind_blank (name ∷ number ∷ words)) ≡ letter ∷ words_of (name ++ 32 ∷ (number ++ flat_map behind_blank words)) =
    words-first letter (name ++ 32 ∷ (number ++ flat_map behind_blank words)) word in
    let second : words_of (name ++ 32 ∷ (number ++ flat_map behind_blank words)) ≡ name ∷ words_of (number ++ flat_map behind_blank words) =
    words-first name (number ++ flat_map behind_blank words) named in
    ap (λ xs. bus_lines bus taken (fed_lines xs)) (append_assoc (line_of (letter ∷ name ∷ number ∷ words)) (flat_map signal_line ss) rest)
    ∙ lines-head bus taken (letter ++ flat_map behind_blank (name ∷ number ∷ words)) (flat_map signal_line ss ++ rest) own line_plain (rw first other) (rw (first, second) same)
    ∙ ap (λ xs. cond own (line_of (letter ∷ name ∷ number ∷ words)) [] ++ xs) (signals-part bus own ss rest signals)
    ∙ joined own (line_of (letter ∷ name ∷ number ∷ words)) (flat_map signal_line ss) (bus_lines bus own (fed_lines rest))

-- the text of an item that is not empty
pub record HasLines (w : WantList) (place : ℕ) (text : List ℕ) : Type 0 where
  pub letter : List ℕ
  pub number : List ℕ
  pub words : List (List ℕ)
  pub signals : List SignalValue
  pub is : text ≡ line_of (letter ∷ bus_name w place ∷ number ∷ words) ++ flat_map signal_line signals
  pub word : is_one_word letter ≡ true
  pub other : bytes_eq letter (codes "s") ≡ false
  pub plain : list_all no_feed (number ∷ words) ≡ true
  pub plain_signals : signals_are_plain signals ≡ true
  pub within : place < length w.names

-- a line alone
alone : (line : List ℕ) → line ≡ line ++ flat_map signal_line []
alone line = sym (append-nil line)

number_line : (w : WantList) (place : ℕ) (letter : List ℕ) (n : ℕ) → is_one_word letter ≡ true → bytes_eq letter (codes "s") ≡ false → place < length w.names
    → HasLines w place (line_of (letter ∷ bus_name w place ∷ decimal n ∷ []))
number_line w place letter n word other within = record {
  letter = letter;
  number = decimal n;
  words = [];
  signals = [];
  is = alone (line_of (letter ∷ bus_name w place ∷ decimal n ∷ []));
  word = word;
  other = other;
  plain = rw (decimal-plain n) refl;
  plain_signals = refl;
  within = within;
}

within_names : (w : WantList) (place : ℕ) → wants_bus w place ≡ true → place < length w.names
within_names w place wanted = ltb-true place (length w.names) (and_parts (nat_lt place (length w.names)) (wants_by w (names_bus place)) wanted).0

-- a filter keeps plain names
kept-plain : (test : SignalValue → Bool) (ss : List SignalValue) → signals_are_plain ss ≡ true → signals_are_plain (filter test ss) ≡ true
kept-plain test [] p = refl
kept-plain test (s ∷ ss) p =
    let parts = and_parts (no_feed s.name) (signals_are_plain ss) p in
    elim (cases_Bool (test s)) [ inl keep ↦ rw (keep, parts.0) (kept-plain test ss parts.1) | inr drop ↦ rw drop (kept-plain test ss parts.1) ]

stamps-plain : (m : Missed) → list_all no_feed (stamps_of m) ≡ true
stamps-plain m = rw (decimal-plain m.first_micros, decimal-plain m.last_micros, decimal-plain m.first_version, decimal-plain m.last_version) refl

gap-plain : (format : ℕ) (m : Missed) → list_all no_feed (decimal m.count ∷ cond (format == 2) (stamps_of m) []) ≡ true
gap-plain format m = elim (cases_Bool (format == 2)) [ inl two ↦ rw (two, decimal-plain m.count) (stamps-plain m) | inr one ↦ rw (one, decimal-plain m.count) refl ]

-- the words of a record's first line
pub record HasRecordLine (w : WantList) (r : Reading) (b : Body) : Type 0 where
  pub letter : List ℕ
  pub rest : List (List ℕ)
  pub is : record_words (bus_name w r.bus) r b ≡ letter ∷ bus_name w r.bus ∷ decimal r.number ∷ rest
  pub word : is_one_word letter ≡ true
  pub other : bytes_eq letter (codes "s") ≡ false
  pub plain : list_all no_feed rest ≡ true

key-plain : (key : Key) → no_feed (key_text key) ≡ true
key-plain key = elim (cases_Bool key.extended) [ inl long ↦ rw long (hex-plain 8 key.id) | inr short ↦ rw short (hex-plain 3 key.id) ]

cause-plain : (c : CutCause) → no_feed (cause_text c) ≡ true
cause-plain cause.Late = refl
cause-plain cause.Again = refl
cause-plain cause.Order = refl
cause-plain cause.Abort = refl
cause-plain cause.End = refl

dash-plain : (name : Option (List ℕ)) → name_is_plain name ≡ true → no_feed (name_or_dash name) ≡ true
dash-plain None p = refl
dash-plain (Some name) p = p

record_line : (w : WantList) (r : Reading) (b : Body) → name_is_plain (message_of b) ≡ true → HasRecordLine w r b
record_line w r (body.Message name signals) p = record {
  letter = codes "m";
  rest = decimal r.version ∷ decimal r.micros ∷ name ∷ [];
  is = refl;
  word = refl;
  other = refl;
  plain = rw (decimal-plain r.version, decimal-plain r.micros, p) refl;
}
record_line w r (body.Unmatched key bytes) p = record {
  letter = codes "u";
  rest = decimal r.version ∷ decimal r.micros ∷ (key_text key ++ 35 ∷ hex_bytes bytes) ∷ [];
  is = refl;
  word = refl;
  other = refl;
  plain = rw (decimal-plain r.version, decimal-plain r.micros, plain-append (key_text key) (35 ∷ hex_bytes bytes) (key-plain key) (hex_bytes-plain bytes)) refl;
}
record_line w r (body.Remote key) p = record {
  letter = codes "r";
  rest = decimal r.version ∷ decimal r.micros ∷ key_text key ∷ [];
  is = refl;
  word = refl;
  other = refl;
  plain = rw (decimal-plain r.version, decimal-plain r.micros, key-plain key) refl;
}
record_line w r (body.Error id) p = record {
  letter = codes "e";
  rest = decimal r.version ∷ decimal r.micros ∷ hex_digits 8 id ∷ [];
  is = refl;
  word = refl;
  other = refl;
  plain = rw (decimal-plain r.version, decimal-plain r.micros, hex-plain 8 id) refl;
}
record_line w r body.Bad p = record {
  letter = codes "x";
  rest = decimal r.version ∷ [];
  is = refl;
  word = refl;
  other = refl;
  plain = rw (decimal-plain r.version) refl;
}
record_line w r (body.Transport pgn sa da bytes name signals) p = record {
  letter = codes "t";
  rest = decimal r.version ∷ decimal r.micros ∷ decimal pgn ∷ decimal sa ∷ decimal da ∷ hex_bytes bytes ∷ name_or_dash name ∷ [];
  is = refl;
  word = refl;
  other = refl;
  plain = rw (decimal-plain r.version, decimal-plain r.micros, decimal-plain pgn, decimal-plain sa, decimal-plain da, hex_bytes-plain bytes, dash-plain name p) refl;
}
record_line w r (body.Cut pgn sa da c) p = record {
  letter = codes "c";
  rest = decimal r.version ∷ decimal r.micros ∷ decimal pgn ∷ decimal sa ∷ decimal da ∷ cause_text c ∷ [];
  is = refl;
  word = refl;
  other = refl;
  plain = rw (decimal-plain r.version, decimal-plain r.micros, decimal-plain pgn, decimal-plain sa, decimal-plain da, cause-plain c) refl;
}

gap_line : (w : WantList) (place : ℕ) (m : Missed) → place < length w.names → HasLines w place (line_of (gap_words w.format (bus_name w place) m))
gap_line w place m within = record {
  letter = codes "g";
  number = decimal m.first;
  words = decimal m.count ∷ cond (w.format == 2) (stamps_of m) [];
  signals = [];
  is = alone (line_of (gap_words w.format (bus_name w place) m));
  word = refl;
  other = refl;
  plain = rw (decimal-plain m.first) (gap-plain w.format m);
  plain_signals = refl;
  within = within;
}

reading_lines : (w : WantList) (r : Reading) → name_is_plain (message_of r.body) ≡ true → signals_are_plain (signals_of r.body) ≡ true → r.bus < length w.names
    → HasLines w r.bus (record_text w (bus_name w r.bus) r)
reading_lines w r named signals within =
    let line : HasRecordLine w r r.body = record_line w r r.body named in
    record {
      letter = line.letter;
      number = decimal r.number;
      words = line.rest;
      signals = filter (λ s. wants_signal w r.bus (message_of r.body) s.name) (signals_of r.body);
      is = ap (λ words. line_of words ++ signal_lines w r.bus (message_of r.body) (signals_of r.body)) line.is;
      word = line.word;
      other = line.other;
      plain = rw (decimal-plain r.number) line.plain;
      plain_signals = kept-plain (λ s. wants_signal w r.bus (message_of r.body) s.name) (signals_of r.body) signals;
      within = within;
    }

-- the text of an item is empty, or a line and lines of signals
pub item_form : (w : WantList) (i : Item) → is_plainly_named i ≡ true → (item_text w i ≡ []) ⊎ HasLines w (bus_of i) (item_text w i)
item_form w (item.Start bus number turn) p = elim (cases_Bool (wants_bus w bus)) [
  | inl wanted ↦ inr (rw wanted (number_line w bus (codes "start") number refl refl (within_names w bus wanted)))
  | inr unwanted ↦ inl (rw unwanted refl)
]
item_form w (item.End bus number) p = elim (cases_Bool (wants_bus w bus)) [
  | inl wanted ↦ inr (rw wanted (number_line w bus (codes "end") number refl refl (within_names w bus wanted)))
  | inr unwanted ↦ inl (rw unwanted refl)
]
item_form w (item.Gap bus m) p = elim (cases_Bool (wants_bus w bus)) [
  | inl wanted ↦ inr (rw wanted (gap_line w bus m (within_names w bus wanted)))
  | inr unwanted ↦ inl (rw unwanted refl)
]
item_form w (item.Reading r) p =
    let names = and_parts (name_is_plain (message_of r.body)) (signals_are_plain (signals_of r.body)) p in
    elim (cases_Bool (wants_reading w r)) [
      | inl wanted ↦ inr (rw wanted (reading_lines w r names.0 names.1 (ltb-true r.bus (length w.names) (and_parts (nat_lt r.bus (length w.names)) (wants_record w r.bus (message_of r.body)) wanted).0)))
      | inr unwanted ↦ inl (rw unwanted refl)
    ]

-- two names of buses are equal where the buses are
same_bus : (names : List (List ℕ)) (a b : ℕ) → AreBusNames names → a < length names → b < length names → bytes_eq (slice_index_or names a []) (slice_index_or names b []) ≡ (a == b)
same_bus names a b are la lb = elim (cases_Bool (a == b)) [
  | inl equal ↦
      let e : a ≡ b = eqb-true a b equal in
      rw (equal, e) (bytes_eq-refl (slice_index_or names b []))
  | inr differ ↦ elim (cases_Bool (bytes_eq (slice_index_or names a []) (slice_index_or names b []))) [
    | inl alike ↦
        let e : a ≡ b = are.differ a b la lb (bytes_eq-true (slice_index_or names a []) (slice_index_or names b []) alike) in
        absurd (cc (rw e at differ, eq-eqb b b refl))
    | inr unlike ↦ rw (unlike, differ) refl
  ]
]

-- an item's text is taken where the item is of the bus
chosen : (own : Bool) (w : WantList) (i : Item) (items : List Item) (text : List ℕ) → text ≡ item_text w i
    → cond own text [] ++ items_text w items ≡ items_text w (cond own (i ∷ items) items)
chosen true w i items text e = ap (λ xs. xs ++ items_text w items) e
chosen false w i items text e = refl

nothing : (own : Bool) (w : WantList) (i : Item) (items : List Item) → item_text w i ≡ [] → items_text w items ≡ items_text w (cond own (i ∷ items) items)
nothing true w i items e = rw e refl
nothing false w i items e = refl

pub items_part : (w : WantList) (bus : ℕ) (taken : Bool) (items : List Item) → AreBusNames w.names → bus < length w.names → list_all is_plainly_named items ≡ true
    → bus_lines (bus_name w bus) taken (fed_lines (items_text w items)) ≡ items_text w (items_of items bus)
unfolding bus_lines fed_lines
items_part w bus taken [] are lt p = refl
items_part w bus taken (i ∷ items) are lt p =
    let parts = and_parts (is_plainly_named i) (list_all is_plainly_named items) p in
    elim (item_form w i parts.0) [
      | inl empty ↦
          ap (λ xs. bus_lines (bus_name w bus) taken (fed_lines (xs ++ items_text w items))) empty ∙ items_part w bus taken items are lt parts.1
          ∙ nothing (bus_of i == bus) w i (items_of items bus) empty
      | inr lines ↦
          ap (λ xs. bus_lines (bus_name w bus) taken (fed_lines (xs ++ items_text w items))) lines.is
          ∙ block-part (bus_name w bus) taken (bus_of i == bus) lines.letter (bus_name w (bus_of i)) lines.number lines.words lines.signals (items_text w items)
          lines.word lines.other (are.words (bus_of i) lines.within) lines.plain lines.plain_signals (same_bus w.names (bus_of i) bus are lines.within lt)
          ∙ ap (λ xs. cond (bus_of i == bus) (line_of (lines.letter ∷ bus_name w (bus_of i) ∷ lines.number ∷ lines.words) ++ flat_map signal_line lines.signals) [] ++ xs)
          (items_part w bus (bus_of i == bus) items are lt parts.1)
          ∙ chosen (bus_of i == bus) w i (items_of items bus) (line_of (lines.letter ∷ bus_name w (bus_of i) ∷ lines.number ∷ lines.words) ++ flat_map signal_line lines.signals) (sym lines.is)
    ]
