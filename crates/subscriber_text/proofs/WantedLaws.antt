-- Each line of a text of items is in the part of a wanted bus.
use Rattle.std.proofs.Common.{◌≡◌, ℕ, Bool, true, false, true≢false, List, [], ◌∷◌, ◌++◌, length, refl, sym, ap, ◌∙◌, subst}
use Rattle.std.proofs.Common.{append_assoc, inl, inr, Option, None}
use Rattle.std.specs.Prelude.{◌||◌, ◌&&◌, nat_lt, flat_map, codes}
use Rattle.std.specs.Fmt.{signed_decimal}
use Rattle.std.specs.List.{list_all, list_any}
use Rattle.std.specs.Str.{bytes_eq}
use Rattle.std.proofs.lemmas.Bool.{cases_Bool, and_parts}
use Rattle.exact_scale.specs.ShortestText.{decimal_text}
use Rattle.bench_model.specs.declared.reading.SignalValue.{SignalValue}
use Rattle.bench_model.specs.declared.reading.Item.{Item}
use Rattle.bench_model.specs.declared.reading.Item.TheVariants as item
use Rattle.text_words.specs.Words.{is_empty, words_of}
use Rattle.subscriber_text.specs.Wants.{Want, WantList, wants_by, same_name, names_bus, names_message, wants_bus, wants_record}
use Rattle.text_words.specs.SpacedWords.{behind_blank}
use Rattle.subscriber_text.specs.ItemText.{quoted, label_words, signal_line, message_of}
use Rattle.subscriber_text.specs.ItemText.{bus_name, wants_reading, item_text, items_text}
use Rattle.subscriber_text.specs.Parts.{fed_lines, first_word, second_word, AreOfWanted, no_feed, is_one_word, AreBusNames}
use Rattle.subscriber_text.specs.Parts.{signals_are_plain, is_plainly_named, bus_of}
use Rattle.subscriber_text.proofs.FeedLaws.{plain-append, words-plain}
use Rattle.subscriber_text.proofs.PartLaws.{word_plain, words-first, bytes_eq-refl, fed_lines-line, without_feed-line}
use Rattle.subscriber_text.proofs.ItemPartLaws.{HasLines, signal-plain, item_form}

-- a weaker test passes too
any_weaker : (p q : Want → Bool) → ((x : Want) → p x ≡ true → q x ≡ true) → (xs : List Want) → list_any p xs ≡ true → list_any q xs ≡ true
any_weaker p q h [] e = e
any_weaker p q h (x ∷ xs) e = elim (cases_Bool (p x)) [
  | inl passes ↦ ap (λ b. b || list_any q xs) (h x passes)
  | inr fails ↦
      let rest = any_weaker p q h xs (sym (ap (λ b. b || list_any p xs) fails) ∙ e) in
      elim (cases_Bool (q x)) [
        | inl here ↦ ap (λ b. b || list_any q xs) here
        | inr other ↦ ap (λ b. b || list_any q xs) other ∙ rest
      ]
]

-- where a record of a bus is wanted, something of the bus is
record_bus : (w : WantList) (bus : ℕ) (m : Option (List ℕ)) → wants_record w bus m ≡ true → wants_by w (names_bus bus) ≡ true
record_bus w bus m p =
    let by_name : (n : Option (List ℕ)) → list_any (names_message bus n) w.wants ≡ true → list_any (names_bus bus) w.wants ≡ true =
    λ n. any_weaker (names_message bus n) (names_bus bus) (λ want e. (and_parts (names_bus bus want) (same_name want.message n) e).0) w.wants in
    elim (cases_Bool (is_empty w.wants)) [
      | inl none ↦ ap (λ b. b || list_any (names_bus bus) w.wants) none
      | inr some ↦
          ap (λ b. b || list_any (names_bus bus) w.wants) some
          ∙ elim (cases_Bool (list_any (names_message bus None) w.wants)) [
            | inl whole ↦ by_name None whole
            | inr fails ↦
                by_name m
                (sym (ap (λ b. b || list_any (names_message bus m) w.wants)
                (ap (λ b. b || list_any (names_message bus None) w.wants) some ∙ fails)) ∙ p)
          ]
    ]

-- the text of an item of a bus of which nothing is wanted is empty
unwanted : (w : WantList) (i : Item) → wants_bus w (bus_of i) ≡ false → item_text w i ≡ []
unwanted w (item.Start bus number turn) none = rw none refl
unwanted w (item.Gap bus missed) none = rw none refl
unwanted w (item.End bus number) none = rw none refl
unwanted w (item.Reading r) none = elim (cases_Bool (wants_reading w r)) [
  | inl passes ↦
      let parts = and_parts (nat_lt r.bus (length w.names)) (wants_record w r.bus (message_of r.body)) passes in
      let some : wants_bus w r.bus ≡ true =
      ap (λ b. b && wants_by w (names_bus r.bus)) parts.0 ∙ record_bus w r.bus (message_of r.body) parts.1 in
      absurd (true≢false (sym some ∙ none))
  | inr fails ↦ rw fails refl
]

-- a line of a signal is in the parts in which the line before it is
signal-wanted : (w : WantList) (before : ℕ → Bool) (bus : ℕ) (line rest : List ℕ) → no_feed line ≡ true
    → bytes_eq (first_word (words_of line)) (codes "s") ≡ true → wants_bus w bus ≡ true → before bus ≡ true
    → AreOfWanted w before (fed_lines rest) → AreOfWanted w before (fed_lines ((line ++ 10 ∷ []) ++ rest))
unfolding AreOfWanted
signal-wanted w before bus line rest plain signal wanted here after =
    rw (append_assoc line (10 ∷ []) rest, fed_lines-line line rest plain, without_feed-line line plain, signal) ((bus, wanted, here), after)

-- another line is in the part of the bus that it names
head-wanted : (w : WantList) (before : ℕ → Bool) (bus : ℕ) (line rest : List ℕ) → no_feed line ≡ true
    → bytes_eq (first_word (words_of line)) (codes "s") ≡ false → bytes_eq (second_word (words_of line)) (bus_name w bus) ≡ true
    → wants_bus w bus ≡ true → ((now : ℕ → Bool) → now bus ≡ true → AreOfWanted w now (fed_lines rest))
    → AreOfWanted w before (fed_lines ((line ++ 10 ∷ []) ++ rest))
unfolding AreOfWanted
head-wanted w before bus line rest plain head names wanted after =
    rw (append_assoc line (10 ∷ []) rest, fed_lines-line line rest plain, without_feed-line line plain, head)
    ((bus, wanted, names), after (λ b. bytes_eq (second_word (words_of line)) (bus_name w b)) names)

signals-wanted : (w : WantList) (before : ℕ → Bool) (bus : ℕ) (ss : List SignalValue) (rest : List ℕ) → signals_are_plain ss ≡ true
    → wants_bus w bus ≡ true → before bus ≡ true → AreOfWanted w before (fed_lines rest)
    → AreOfWanted w before (fed_lines (flat_map signal_line ss ++ rest))
signals-wanted w before bus [] rest p wanted here after = after
signals-wanted w before bus (s ∷ ss) rest p wanted here after =
    let parts = and_parts (no_feed s.name) (signals_are_plain ss) p in
    let words = signed_decimal s.raw ∷ decimal_text s.value.num s.value.k ∷ quoted s.unit ∷ label_words s.label in
    subst (λ xs. AreOfWanted w before (fed_lines xs)) (sym (append_assoc (signal_line s) (flat_map signal_line ss) rest))
    (signal-wanted w before bus (codes "s" ++ flat_map behind_blank (s.name ∷ words)) (flat_map signal_line ss ++ rest) (signal-plain s parts.0)
    (ap (λ ws. bytes_eq (first_word ws) (codes "s")) (words-first (codes "s") (s.name ++ flat_map behind_blank words) refl))
    wanted here (signals-wanted w before bus ss rest parts.1 wanted here after))

-- a line that names a bus, and lines of signals
block-wanted : (w : WantList) (before : ℕ → Bool) (i : Item) (rest : List ℕ) (h : HasLines w (bus_of i) (item_text w i))
    → is_one_word (bus_name w (bus_of i)) ≡ true → wants_bus w (bus_of i) ≡ true
    → ((now : ℕ → Bool) → AreOfWanted w now (fed_lines rest)) → AreOfWanted w before (fed_lines (item_text w i ++ rest))
block-wanted w before i rest h named wanted after =
    let name : List ℕ = bus_name w (bus_of i) in
    let words : List (List ℕ) = h.number ∷ h.words in
    let line : List ℕ = h.letter ++ flat_map behind_blank (name ∷ words) in
    let signals : List ℕ = flat_map signal_line h.signals in
    let plain : no_feed line ≡ true =
    plain-append h.letter (flat_map behind_blank (name ∷ words)) (word_plain h.letter h.word) (words-plain (name ∷ words) (rw (word_plain name named) h.plain)) in
    let first = words-first h.letter (name ++ 32 ∷ (h.number ++ flat_map behind_blank h.words)) h.word in
    let second = words-first name (h.number ++ flat_map behind_blank h.words) named in
    subst (λ xs. AreOfWanted w before (fed_lines (xs ++ rest))) (sym h.is)
    (subst (λ xs. AreOfWanted w before (fed_lines xs)) (sym (append_assoc (line ++ 10 ∷ []) signals rest))
    (head-wanted w before (bus_of i) line (signals ++ rest) plain
    (ap (λ ws. bytes_eq (first_word ws) (codes "s")) first ∙ h.other)
    (ap (λ ws. bytes_eq (second_word ws) name) first ∙ ap (λ ws. bytes_eq (first_word ws) name) second ∙ bytes_eq-refl name)
    wanted (λ now here. signals-wanted w now (bus_of i) h.signals rest h.plain_signals wanted here (after now))))

pub items_wanted : (w : WantList) (items : List Item) → AreBusNames w.names → list_all is_plainly_named items ≡ true
    → (before : ℕ → Bool) → AreOfWanted w before (fed_lines (items_text w items))
unfolding AreOfWanted fed_lines
items_wanted w [] are p before = tt
items_wanted w (i ∷ items) are p before =
    let parts = and_parts (is_plainly_named i) (list_all is_plainly_named items) p in
    let rest = items_wanted w items are parts.1 in
    let empty_text : item_text w i ≡ [] → AreOfWanted w before (fed_lines (item_text w i ++ items_text w items)) =
    λ empty. subst (λ t. AreOfWanted w before (fed_lines (t ++ items_text w items))) (sym empty) (rest before) in
    elim (cases_Bool (wants_bus w (bus_of i))) [
      | inl wanted ↦ elim (item_form w i parts.0) [
        | inl empty ↦ empty_text empty
        | inr lines ↦ block-wanted w before i (items_text w items) lines (are.words (bus_of i) lines.within) wanted rest
      ]
      | inr fails ↦ empty_text (unwanted w i fails)
    ]
