-- The text of more lines goes on where that of the first of them stops: line by line, up to the end.
use Rattle.std.proofs.Common.{◌≡◌, ℕ, ◌==◌, false, List, [], ◌∷◌, ◌++◌, length, map, refl, sym, ap, ◌∙◌, append_assoc, arith, if◌then◌else◌}
use Rattle.std.proofs.lemmas.List.{map-append, length-map}
use Rattle.std.proofs.lemmas.Grind.{flat_map-append}
use Rattle.std.specs.Prelude.{slice_get}
use Rattle.bench_model.specs.declared.database.Kind.{Kind}
use Rattle.bench_model.specs.declared.database.Bench.{Bench}
use Rattle.bench_model.specs.declared.reading.Reading.{Reading}
use Rattle.bench_model.specs.declared.reading.Item.{Item}
use Rattle.bench_model.specs.declared.reading.Item.TheVariants as item
use Rattle.bench_model.specs.Meaning.{bench_meaning}
use Rattle.candump_log.specs.declared.log_line.LogLine.{LogLine}
use Rattle.decoded_list.specs.Records.{records_at}
use Rattle.decoded_list.specs.Decoded.{meaning_in, decoded, decoded_after}
use Rattle.subscriber_text.specs.Wants.{WantList}
use Rattle.subscriber_text.specs.ItemText.{item_text, items_text}
use Rattle.bus_text.specs.declared.bus.BusPlace.{BusPlace}
use Rattle.bus_text.specs.BusText.{records_of, reading_items, items_so_far, text_so_far, bus_text}
use Rattle.bus_text.specs.LineView.{start_at, line_text, end_text}

-- what the decoded list says of more lines, and of one
abbrev pub ListGoesOn : Type 0
ListGoesOn = (bus : ℕ) (kind : Kind) (benches : List Bench) (versions later : List ℕ) (lines more : List LogLine) → length versions ≡ length lines
    → decoded bus kind benches (versions ++ later) (lines ++ more) ≡ decoded bus kind benches versions lines ++ decoded_after bus kind benches lines (length (decoded bus kind benches versions lines)) later more

abbrev pub ListGoesOnByOne : Type 0
ListGoesOnByOne = (bus : ℕ) (kind : Kind) (benches : List Bench) (versions : List ℕ) (lines : List LogLine) (version : ℕ) (line : LogLine) → length versions ≡ length lines
    → decoded bus kind benches (versions ++ version ∷ []) (lines ++ line ∷ []) ≡ decoded bus kind benches versions lines
    ++ records_at (meaning_in bus (slice_get benches version)) kind (record { bus = bus; version = version }) lines (length (decoded bus kind benches versions lines)) line

zeros : List LogLine → List ℕ
zeros lines = map (λ _. 0) lines

-- the records of one line more
pub records_one : ListGoesOnByOne → (bench : Bench) (bus : BusPlace) (lines : List LogLine) (line : LogLine) →
    records_of bench bus (lines ++ line ∷ []) ≡ records_of bench bus lines
    ++ records_at (bench_meaning bench bus.place) bus.kind (record { bus = bus.place; version = 0 }) lines (length (records_of bench bus lines)) line
unfolding records_of
records_one one bench bus lines line =
    ap (λ vs. decoded bus.place bus.kind (bench ∷ []) vs (lines ++ line ∷ [])) (map-append (λ _. 0) lines (line ∷ []))
    ∙ one bus.place bus.kind (bench ∷ []) (map (λ _. 0) lines) lines 0 line (length-map lines (λ _. 0))

-- the records of more lines
records_more : ListGoesOn → (bench : Bench) (bus : BusPlace) (lines more : List LogLine) → (later : List Reading) × (records_of bench bus (lines ++ more) ≡ records_of bench bus lines ++ later)
unfolding records_of
records_more on bench bus lines more = (
  decoded_after bus.place bus.kind (bench ∷ []) lines (length (decoded bus.place bus.kind (bench ∷ []) (map (λ _. 0) lines) lines)) (map (λ _. 0) more) more,
  ap (λ vs. decoded bus.place bus.kind (bench ∷ []) vs (lines ++ more)) (map-append (λ _. 0) lines more)
      ∙ on bus.place bus.kind (bench ∷ []) (map (λ _. 0) lines) (map (λ _. 0) more) lines more (length-map lines (λ _. 0)),
)

-- items behind more records
items_later : (bus : ℕ) (before later : List Reading) → (rest : List Item) × (items_so_far bus (before ++ later) ≡ items_so_far bus before ++ rest)
items_later bus [] later = (items_so_far bus later, refl)
items_later bus (r ∷ rs) later = (reading_items later, ap (λ is. item.Start bus 0 0 ∷ item.Reading r ∷ is) (map-append (λ x. item.Reading x) rs later))

some_records : (r : Reading) (rs : List Reading) → (length (r ∷ rs) == 0) ≡ false
some_records r rs = grind arith

items_one : (bus : ℕ) (before : List Reading) (r : Reading) (rs : List Reading) → items_so_far bus (before ++ r ∷ rs) ≡ items_so_far bus before ++ (start_at bus (length before) ++ reading_items (r ∷ rs))
items_one bus [] r rs = refl
items_one bus (b ∷ bs) r rs =
    ap (λ is. item.Start bus 0 0 ∷ item.Reading b ∷ is) (map-append (λ x. item.Reading x) bs (r ∷ rs))
    ∙ ap (λ test. items_so_far bus (b ∷ bs) ++ ((if test then item.Start bus 0 0 ∷ [] else []) ++ reading_items (r ∷ rs))) (sym (some_records b bs))

texts_append : (w : WantList) (a b : List Item) → items_text w (a ++ b) ≡ items_text w a ++ items_text w b
texts_append w a b = flat_map-append (item_text w) a b

-- without a line there is no text
pub no_text : (w : WantList) (bench : Bench) (bus : BusPlace) → text_so_far w bench bus [] ≡ []
unfolding text_so_far records_of decoded_after
no_text w bench bus = refl

pub no_records : (bench : Bench) (bus : BusPlace) → records_of bench bus [] ≡ []
unfolding records_of decoded_after
no_records bench bus = refl

-- one line more
pub text_one : ListGoesOnByOne → (w : WantList) (bench : Bench) (bus : BusPlace) (lines : List LogLine) (line : LogLine) →
    text_so_far w bench bus (lines ++ line ∷ []) ≡ text_so_far w bench bus lines ++ line_text w bench bus lines line
unfolding text_so_far line_text
text_one one w bench bus lines line =
    ap (λ rs. items_text w (items_so_far bus.place rs)) (records_one one bench bus lines line)
    ∙ ap (items_text w) (items_one bus.place (records_of bench bus lines) _ _)
    ∙ texts_append w (items_so_far bus.place (records_of bench bus lines)) _

-- the end
pub text_end : (w : WantList) (bench : Bench) (bus : BusPlace) (lines : List LogLine) → bus_text w bench bus lines ≡ text_so_far w bench bus lines ++ end_text w bench bus lines
unfolding text_so_far bus_text end_text
text_end w bench bus lines = texts_append w (items_so_far bus.place (records_of bench bus lines)) _

-- the text of the first lines is a prefix
pub text_prefix : ListGoesOn → (w : WantList) (bench : Bench) (bus : BusPlace) (lines more : List LogLine) → (rest : List ℕ) × (bus_text w bench bus (lines ++ more) ≡ text_so_far w bench bus lines ++ rest)
unfolding text_so_far bus_text
text_prefix on w bench bus lines more =
    let records = records_more on bench bus lines more in
    let items = items_later bus.place (records_of bench bus lines) records.0 in
    let all = records_of bench bus (lines ++ more) in
    let end = item.End bus.place (length all) ∷ [] in (
      items_text w (items.0 ++ end),
      ap (λ rs. items_text w (items_so_far bus.place rs ++ end)) records.1
          ∙ ap (λ is. items_text w (is ++ end)) items.1
          ∙ ap (items_text w) (append_assoc (items_so_far bus.place (records_of bench bus lines)) items.0 end)
          ∙ texts_append w (items_so_far bus.place (records_of bench bus lines)) (items.0 ++ end),
    )
