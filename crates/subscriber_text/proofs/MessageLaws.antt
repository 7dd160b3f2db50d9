-- The parts of a message's record are its text.
use Rattle.std.proofs.Common.{◌≡◌, ℕ, Bool, true, false, List, [], ◌∷◌, ◌++◌, Some, length, refl, ap, inl, inr, if◌then◌else◌}
use Rattle.std.specs.Prelude.{◌&&◌, ◌||◌, filter, flat_map, nat_lt}
use Rattle.std.specs.List.{list_any}
use Rattle.std.proofs.lemmas.Bool.{cases_Bool}
use Rattle.bench_model.specs.declared.reading.SignalValue.{SignalValue}
use Rattle.bench_model.specs.declared.reading.Item.TheVariants as item
use Rattle.subscriber_text.specs.Wants.{WantList, names_signal, wants_record, wants_all_signals}
use Rattle.subscriber_text.specs.ItemText.{line_of, signal_line, record_words, bus_name, item_text}
use Rattle.subscriber_text.specs.MessageParts.{message_record, first_line, all_or_named, signals_wanted, covered_lines}
use Rattle.subscriber_text.specs.declared.message_parts.RecordPlace.{RecordPlace}
use Rattle.subscriber_text.specs.declared.message_parts.WantedSignals.TheVariants.{Nothing}

-- lines of those that pass a test
lines_filter : (test : SignalValue → Bool) (line : SignalValue → List ℕ) (ss : List SignalValue) →
    flat_map (λ s. if test s then line s else []) ss ≡ flat_map line (filter test ss)
lines_filter test line [] = refl
lines_filter test line (s ∷ ss) = elim (cases_Bool (test s)) [
  | inl e ↦ rw e (ap (λ t. line s ++ t) (lines_filter test line ss))
  | inr e ↦ rw e (lines_filter test line ss)
]

covered_nothing : (w : WantList) (bus : ℕ) (message : List ℕ) (ss : List SignalValue) → covered_lines w bus message Nothing ss ≡ []
covered_nothing w bus message [] = refl
covered_nothing w bus message (s ∷ ss) = covered_nothing w bus message ss

covered_all_or_named : (w : WantList) (bus : ℕ) (message : List ℕ) (all : Bool) (ss : List SignalValue) →
    covered_lines w bus message (all_or_named all) ss
    ≡ flat_map signal_line (filter (λ s. all || list_any (names_signal bus (Some message) (Some s.name)) w.wants) ss)
covered_all_or_named w bus message true ss = lines_filter (λ s. true) signal_line ss
covered_all_or_named w bus message false ss = lines_filter (λ s. list_any (names_signal bus (Some message) (Some s.name)) w.wants) signal_line ss

pub parts_joined : (w : WantList) (place : RecordPlace) (message : List ℕ) (ss : List SignalValue) →
    first_line w (message_record place message []) ++ covered_lines w place.bus message (signals_wanted w place.bus message) ss
    ≡ item_text w (item.Reading (message_record place message ss))
parts_joined w place message ss =
    let r = message_record place message ss in
    elim (cases_Bool (nat_lt place.bus (length w.names) && wants_record w place.bus (Some message))) [
      | inl e ↦ rw e (ap (λ t. line_of (record_words (bus_name w place.bus) r r.body) ++ t) (covered_all_or_named w place.bus message (wants_all_signals w place.bus (Some message)) ss))
      | inr e ↦ rw e (covered_nothing w place.bus message ss)
    ]
