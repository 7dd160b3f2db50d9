-- Where a record is, and a signal's value in parts that are lent, as the code has them.
use Rattle.std.specs.Prelude.{ℕ, List, [], ◌∷◌}
use Rattle.std.specs.Fmt.{decimal}
use Rattle.bench_model.specs.declared.reading.SignalValue.{SignalValue}
use Rattle.bench_model.specs.declared.reading.Reading.{Reading}
use Rattle.text_words.specs.SpacedWords.{text_of_words}
use Rattle.subscriber_text.specs.WantView.{name_of}
use Rattle.subscriber_text.specs.declared.message_parts.RecordPlace.{RecordPlace}
use Rattle.subscriber_text.specs.declared.signal.SignalParts.{SignalParts}

abbrev pub place_of : Reading → RecordPlace
place_of r = record { bus = r.bus; number = r.number; version = r.version; micros = r.micros }

abbrev pub signal_view : SignalParts → SignalValue
signal_view s = record { name = s.name.now; raw = s.raw; value = s.value; unit = s.unit.now; label = name_of s.label }

-- what a record with a stamp begins with
abbrev pub begin_text : List ℕ → List ℕ → RecordPlace → List ℕ
begin_text letter bus place =
    text_of_words (letter ∷ bus ∷ decimal place.number ∷ decimal place.version ∷ decimal place.micros ∷ [])
