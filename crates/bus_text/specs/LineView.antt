-- How the text of a bus grows by a line.
use Rattle.std.specs.Prelude.{◌≡◌, ℕ, ◌==◌, List, [], ◌∷◌, ◌++◌, length, if◌then◌else◌}
use Rattle.bench_model.specs.declared.database.Bench.{Bench}
use Rattle.bench_model.specs.declared.reading.Item.{Item}
use Rattle.bench_model.specs.declared.reading.Item.TheVariants as item
use Rattle.bench_model.specs.Meaning.{bench_meaning}
use Rattle.candump_log.specs.declared.log_line.LogLine.{LogLine}
use Rattle.decoded_list.specs.declared.decoder.BusDecoder.{BusDecoder}
use Rattle.decoded_list.specs.Records.{records_at}
use Rattle.decoded_list.specs.Listening.{HasTaken}
use Rattle.subscriber_text.specs.Wants.{WantList}
use Rattle.subscriber_text.specs.ItemText.{items_text}
use Rattle.bus_text.specs.declared.bus.BusPlace.{BusPlace}
use Rattle.bus_text.specs.BusText.{records_of, reading_items}

-- before the record of number 0 is the start
abbrev pub start_at : ℕ → ℕ → List Item
start_at bus number = if number == 0 then item.Start bus 0 0 ∷ [] else []

-- the text of the records of one line more, behind those of these lines
unfoldable pub line_text : WantList → Bench → BusPlace → List LogLine → LogLine → List ℕ
line_text w bench bus lines line =
    let number = length (records_of bench bus lines) in
    items_text w (start_at bus.place number ++ reading_items
    (records_at (bench_meaning bench bus.place) bus.kind (record { bus = bus.place; version = 0 }) lines number line))

-- the text of the end behind these lines
unfoldable pub end_text : WantList → Bench → BusPlace → List LogLine → List ℕ
end_text w bench bus lines = items_text w (item.End bus.place (length (records_of bench bus lines)) ∷ [])

-- the decoder of a bus has given the records of these lines
pub record HasDecoded (bench : Bench) (bus : BusPlace) (decoder : BusDecoder) (lines : List LogLine) : Type 0 where
  pub taken : HasTaken decoder lines
  pub place : decoder.bus ≡ bus.place
  pub kind : decoder.kind ≡ bus.kind
  pub next : decoder.next ≡ length (records_of bench bus lines)
