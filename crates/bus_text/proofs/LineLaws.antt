-- The text of a line's records is that of the start before the first of them and of each record.
use Rattle.std.proofs.Common.{◌≡◌, ℕ, ◌+◌, ◌==◌, zero, suc, false, List, [], ◌∷◌, ◌++◌, length, Option, Some, refl, sym, ap, ◌∙◌, arith, length-append, if◌then◌else◌}
use Rattle.std.proofs.lemmas.List.{append-nil}
use Rattle.std.proofs.lemmas.Grind.{flat_map-append}
use Rattle.bench_model.specs.declared.database.Bench.{Bench}
use Rattle.bench_model.specs.declared.reading.Reading.{Reading}
use Rattle.bench_model.specs.declared.reading.Item.TheVariants as item
use Rattle.bench_model.specs.Meaning.{bench_meaning}
use Rattle.candump_log.specs.declared.log_line.LogLine.{LogLine}
use Rattle.decoded_list.specs.declared.decoder.BusDecoder.{BusDecoder}
use Rattle.decoded_list.specs.Listening.{HasTaken}
use Rattle.decoded_list.specs.Records.{records_at}
use Rattle.decoded_list.specs.RecordsView.{one_or_none}
use Rattle.subscriber_text.specs.Wants.{WantList}
use Rattle.subscriber_text.specs.ItemText.{item_text, items_text}
use Rattle.bus_text.specs.declared.bus.BusPlace.{BusPlace}
use Rattle.bus_text.specs.BusText.{records_of, reading_items}
use Rattle.bus_text.specs.LineView.{start_at, line_text, HasDecoded}
use Rattle.bus_text.specs.PrinterView.{AreRecords}

later_record : (n : ℕ) → (suc n == 0) ≡ false
later_record n = grind arith

-- no start is before a later record
pub no_start : (bus number : ℕ) → (number ≡ 0 → ⊥) → start_at bus number ≡ []
no_start bus zero h = absurd (h refl)
no_start bus (suc n) h = ap (λ test. if test then item.Start bus 0 0 ∷ [] else []) (later_record n)

-- what the law of the text says of the records of one line more
abbrev pub RecordsMore : Type 0
RecordsMore = (bench : Bench) (bus : BusPlace) (lines : List LogLine) (line : LogLine) → records_of bench bus (lines ++ line ∷ []) ≡ records_of bench bus lines
    ++ records_at (bench_meaning bench bus.place) bus.kind (record { bus = bus.place; version = 0 }) lines (length (records_of bench bus lines)) line

-- the next records of a decoder are those of its bus
records_under : (bench : Bench) (bus : BusPlace) (lines : List LogLine) (line : LogLine) (decoder : BusDecoder) → HasDecoded bench bus decoder lines →
    records_at (bench_meaning bench decoder.bus) decoder.kind (record { bus = decoder.bus; version = 0 }) lines decoder.next line
    ≡ records_at (bench_meaning bench bus.place) bus.kind (record { bus = bus.place; version = 0 }) lines (length (records_of bench bus lines)) line
records_under bench bus lines line decoder d =
    ap (λ p. records_at (bench_meaning bench p) decoder.kind (record { bus = p; version = 0 }) lines decoder.next line) d.place
    ∙ ap (λ k. records_at (bench_meaning bench bus.place) k (record { bus = bus.place; version = 0 }) lines decoder.next line) d.kind
    ∙ ap (λ m. records_at (bench_meaning bench bus.place) bus.kind (record { bus = bus.place; version = 0 }) lines m line) d.next

-- a text and that of the other record, where there is one
pub both_texts : (w : WantList) (text same : List ℕ) (other : Reading) (o : Option Reading) → text ≡ same → o ≡ Some other →
    text ++ item_text w (item.Reading other) ≡ same ++ items_text w (reading_items (one_or_none o))
both_texts w text same other o e is =
    ap (λ (t : List ℕ). t ++ item_text w (item.Reading other)) e
    ∙ ap (λ (t : List ℕ). same ++ t) (sym (append-nil (item_text w (item.Reading other))) ∙ ap (λ (x : Option Reading). items_text w (reading_items (one_or_none x))) (sym is))

-- the records that the decoder of a bus gives next, behind a start where there is none before
pub line_as : (v w : WantList) (bench : Bench) (bus : BusPlace) (lines : List LogLine) (line : LogLine) (decoder : BusDecoder) (place number : ℕ) (text : List ℕ) (other : Option Reading) →
    HasDecoded bench bus decoder lines → v ≡ w → place ≡ decoder.bus → number ≡ decoder.next
    → AreRecords w (records_at (bench_meaning bench decoder.bus) decoder.kind (record { bus = decoder.bus; version = 0 }) lines decoder.next line) text other
    → items_text v (start_at place number) ++ (text ++ items_text v (reading_items (one_or_none other))) ≡ line_text w bench bus lines line
unfolding line_text
line_as v w bench bus lines line decoder place number text other d wants here count are =
    let n = length (records_of bench bus lines) in
    let records = records_at (bench_meaning bench decoder.bus) decoder.kind (record { bus = decoder.bus; version = 0 }) lines decoder.next line in
    ap (λ (x : WantList). items_text x (start_at place number) ++ (text ++ items_text x (reading_items (one_or_none other)))) wants
    ∙ ap (λ (t : List ℕ). items_text w (start_at place number) ++ t) are.prints
    ∙ sym (flat_map-append (item_text w) (start_at place number) (reading_items records))
    ∙ ap (λ b. items_text w (start_at b number ++ reading_items records)) (here ∙ d.place)
    ∙ ap (λ m. items_text w (start_at bus.place m ++ reading_items records)) (count ∙ d.next)
    ∙ ap (λ rs. items_text w (start_at bus.place n ++ reading_items rs)) (records_under bench bus lines line decoder d)

-- the decoder has given the records of this line, too
pub decoded_one : RecordsMore → (w : WantList) (bench : Bench) (bus : BusPlace) (lines : List LogLine) (line : LogLine) (old new : BusDecoder) (text : List ℕ) (other : Option Reading) →
    HasDecoded bench bus old lines → HasTaken new (lines ++ line ∷ []) → (new.bus ≡ old.bus) × (new.kind ≡ old.kind)
    → new.next ≡ old.next + (1 + length (one_or_none other))
    → AreRecords w (records_at (bench_meaning bench old.bus) old.kind (record { bus = old.bus; version = 0 }) lines old.next line) text other
    → HasDecoded bench bus new (lines ++ line ∷ [])
decoded_one more w bench bus lines line old new text other d taken same next are =
    let n = length (records_of bench bus lines) in
    let records = records_at (bench_meaning bench bus.place) bus.kind (record { bus = bus.place; version = 0 }) lines n line in
    let count : length (records_of bench bus (lines ++ line ∷ [])) ≡ n + length records = ap length (more bench bus lines line) ∙ length-append (records_of bench bus lines) records in
    let own : 1 + length (one_or_none other) ≡ length records = are.count ∙ ap length (records_under bench bus lines line old d) in
    record {
      taken = taken;
      place = same.0 ∙ d.place;
      kind = same.1 ∙ d.kind;
      next = next ∙ ap (λ m. m + (1 + length (one_or_none other))) d.next ∙ ap (λ m. n + m) own ∙ sym count;
    }
