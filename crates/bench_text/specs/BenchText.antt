-- The text of a bench: the texts of its buses, one after another, each a function of the bytes of its log.
use Rattle.std.specs.Prelude.{ℕ, ◌+◌, List, [], ◌∷◌, ◌++◌, map}
use Rattle.byte_forms.specs.Lines.{all_lines}
use Rattle.bench_model.specs.declared.database.Bench.{Bench}
use Rattle.candump_log.specs.LineOf.{line_of}
use Rattle.candump_log.specs.LogLines.{whole_lines}
use Rattle.subscriber_text.specs.Wants.{WantList}
use Rattle.bus_text.specs.BusText.{bus_at, bus_text, text_so_far}

-- the text of the bus at this place of a bench whose log has these bytes
abbrev pub whole_text : WantList → Bench → ℕ → List ℕ → List ℕ
whole_text w bench place bytes = bus_text w bench (bus_at bench place) (map line_of (all_lines bytes))

-- its text where the log stopped behind these bytes: as far as the whole lines among them go
abbrev pub part_text : WantList → Bench → ℕ → List ℕ → List ℕ
part_text w bench place took = text_so_far w bench (bus_at bench place) (map line_of (whole_lines took))

-- the texts of the buses from this place on, whose logs have these bytes, joined
unfoldable pub texts_from : WantList → Bench → ℕ → List (List ℕ) → List ℕ
texts_from w bench place [] = []
texts_from w bench place (bytes ∷ more) = whole_text w bench place bytes ++ texts_from w bench (place + 1) more

-- the text of the buses whose logs have these bytes, from the first bus on
abbrev pub bench_text : WantList → Bench → List (List ℕ) → List ℕ
bench_text w bench logs = texts_from w bench 0 logs
