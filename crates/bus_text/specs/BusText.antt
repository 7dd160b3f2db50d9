-- The text of a bus: what a subscriber is sent who sees all of its log under one version of the databases.
use Rattle.std.specs.Prelude.{ℕ, List, [], ◌∷◌, ◌++◌, length, map, Option, Some, None, slice_get}
use Rattle.bench_model.specs.declared.database.Kind.{Kind}
use Rattle.bench_model.specs.declared.database.Kind.TheVariants as kind
use Rattle.bench_model.specs.declared.database.Bus.{Bus}
use Rattle.bench_model.specs.declared.database.Bench.{Bench}
use Rattle.bench_model.specs.declared.reading.Reading.{Reading}
use Rattle.bench_model.specs.declared.reading.Item.{Item}
use Rattle.bench_model.specs.declared.reading.Item.TheVariants as item
use Rattle.candump_log.specs.declared.log_line.LogLine.{LogLine}
use Rattle.decoded_list.specs.Decoded.{decoded}
use Rattle.subscriber_text.specs.Wants.{WantList}
use Rattle.subscriber_text.specs.ItemText.{items_text}
use Rattle.bus_text.specs.declared.bus.BusPlace.{BusPlace}

-- the kind that a bench gives a bus; at a place without a bus, which no call is asked for, it is CAN
abbrev pub kind_of : Option Bus → Kind
kind_of (Some bus) = bus.kind
kind_of None = kind.Can

-- the bus at this place of a bench
abbrev pub bus_at : Bench → ℕ → BusPlace
bus_at bench place = record { place = place; kind = kind_of (slice_get bench.buses place) }

-- the decoded list of these lines on the bus, each line under this bench as version 0
unfoldable pub records_of : Bench → BusPlace → List LogLine → List Reading
records_of bench bus lines = decoded bus.place bus.kind (bench ∷ []) (map (λ _. 0) lines) lines

-- records as items, behind a start with number 0 where there is one
abbrev pub start_items : ℕ → List Reading → List Item
start_items bus [] = []
start_items bus (reading ∷ readings) = item.Start bus 0 0 ∷ []

abbrev pub reading_items : List Reading → List Item
reading_items readings = map (λ reading. item.Reading reading) readings

abbrev pub items_so_far : ℕ → List Reading → List Item
items_so_far bus readings = start_items bus readings ++ reading_items readings

-- the items of a log that has ended: behind its records the end, with their number
abbrev pub bus_items : ℕ → List Reading → List Item
bus_items bus readings = items_so_far bus readings ++ item.End bus (length readings) ∷ []

-- the text of a log that goes no further, or may go on: as far as the records of these lines go
unfoldable pub text_so_far : WantList → Bench → BusPlace → List LogLine → List ℕ
text_so_far w bench bus lines = items_text w (items_so_far bus.place (records_of bench bus lines))

-- the text of a log of these lines that has ended
unfoldable pub bus_text : WantList → Bench → BusPlace → List LogLine → List ℕ
bus_text w bench bus lines = items_text w (bus_items bus.place (records_of bench bus lines))
