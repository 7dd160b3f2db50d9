-- The text of a message's record in parts: its first line, and the line of each signal, each where it is wanted.
use Rattle.std.specs.Prelude.{ℕ, Bool, ◌&&◌, true, false, List, [], flat_map, length, nat_lt, Some, if◌then◌else◌}
use Rattle.std.specs.List.{list_any}
use Rattle.bench_model.specs.declared.reading.SignalValue.{SignalValue}
use Rattle.bench_model.specs.declared.reading.Body.{Body}
use Rattle.bench_model.specs.declared.reading.Body.TheVariants as body
use Rattle.bench_model.specs.declared.reading.Reading.{Reading}
use Rattle.subscriber_text.specs.Wants.{WantList, names_signal, wants_record, wants_all_signals}
use Rattle.subscriber_text.specs.ItemText.{line_of, signal_line, record_words, bus_name, wants_reading}
use Rattle.subscriber_text.specs.declared.message_parts.RecordPlace.{RecordPlace}
use Rattle.subscriber_text.specs.declared.message_parts.WantedSignals.{WantedSignals}
use Rattle.subscriber_text.specs.declared.message_parts.WantedSignals.TheVariants.{Nothing, Named, All}

-- the record at this place that says this, and that of a message of this name with these signals
abbrev pub record_at : RecordPlace → Body → Reading
record_at place says =
    record { bus = place.bus; number = place.number; version = place.version; micros = place.micros; body = says }

abbrev pub message_record : RecordPlace → List ℕ → List SignalValue → Reading
message_record place name signals = record_at place (body.Message name signals)

-- the first line of a record, where it is wanted
abbrev pub first_line : WantList → Reading → List ℕ
first_line w r = if wants_reading w r then line_of (record_words (bus_name w r.bus) r r.body) else []

-- which signals of the records of a message are wanted: of a record that is not, none
abbrev pub all_or_named : Bool → WantedSignals
all_or_named all = if all then All else Named

abbrev pub signals_wanted : WantList → ℕ → List ℕ → WantedSignals
signals_wanted w bus message =
    if nat_lt bus (length w.names) && wants_record w bus (Some message)
    then all_or_named (wants_all_signals w bus (Some message)) else Nothing

-- whether a signal of this name is among them
abbrev pub is_covered : WantList → ℕ → List ℕ → WantedSignals → List ℕ → Bool
is_covered w bus message Nothing signal = false
is_covered w bus message Named signal = list_any (names_signal bus (Some message) (Some signal)) w.wants
is_covered w bus message All signal = true

-- the line of a signal, where it is
abbrev pub covered_line : WantList → ℕ → List ℕ → WantedSignals → SignalValue → List ℕ
covered_line w bus message wanted s = if is_covered w bus message wanted s.name then signal_line s else []

-- the lines of the signals of a record
abbrev pub covered_lines : WantList → ℕ → List ℕ → WantedSignals → List SignalValue → List ℕ
covered_lines w bus message wanted signals = flat_map (covered_line w bus message wanted) signals
