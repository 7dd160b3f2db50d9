-- What the tool writes.
use Rattle.std.specs.Prelude.{ℕ, ◌+◌, List, [], ◌∷◌, ◌++◌, codes, length, map}
use Rattle.std.specs.Fmt.{decimal}
use Rattle.bench_model.specs.declared.database.Message.{Message}
use Rattle.bench_model.specs.declared.database.Database.{Database}
use Rattle.bench_model.specs.declared.database.Bus.{Bus}
use Rattle.bench_model.specs.declared.database.Bench.{Bench}
use Rattle.subscriber_text.specs.Wants.{WantList}
use Rattle.bench_text.specs.BenchText.{part_text, bench_text}
use Rattle.text_words.specs.SpacedWords.{text_of_words}
use Rattle.bench_loader.specs.Verdict.{Run}

-- the names of the buses of a bench
abbrev pub bus_names : Bench → List (List ℕ)
bus_names bench = map (λ (bus : Bus). bus.name) bench.buses

-- everything is wanted of all buses, in format 1
abbrev pub all_wanted : Bench → WantList
all_wanted bench = record { format = 1; names = bus_names bench; wants = [] }

-- the text of these logs of the first buses, and that of the bus at a place as far as its log was taken
abbrev pub text_of : Bench → List (List ℕ) → List ℕ
text_of bench logs = bench_text (all_wanted bench) bench logs

abbrev pub text_up_to : Bench → ℕ → List ℕ → List ℕ
text_up_to bench bus took = part_text (all_wanted bench) bench bus took

-- the text of `decode`: that of each bus in order, from the bytes of its log
abbrev pub tool_text : Run → List ℕ
tool_text run = text_of run.bench run.logs

-- how many signals messages have
abbrev pub signal_count : List Message → ℕ
signal_count [] = 0
signal_count (message ∷ messages) = length message.signals + signal_count messages

-- the text of `check`: `ok`, the number of messages and that of signals
abbrev pub check_text : Database → List ℕ
check_text d =
    text_of_words (codes "ok" ∷ decimal (length d.messages) ∷ decimal (signal_count d.messages) ∷ []) ++ 10 ∷ []
