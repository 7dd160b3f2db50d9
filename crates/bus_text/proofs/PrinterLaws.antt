-- A printer that is given the parts of a message has the text of its record.
use Rattle.std.proofs.Common.{◌≡◌, ◌∙◌, ℕ, ◌+◌, Bool, true, false, List, [], ◌∷◌, ◌++◌, length, Option, Some, None, Result, IfOk, refl, ap, sym, subst, append_assoc, append-nil, arith}
use Rattle.std.specs.declared.alloc.AllocError.{AllocError}
use Rattle.bench_model.specs.declared.database.Key.{Key}
use Rattle.bench_model.specs.declared.database.Bench.{Bench}
use Rattle.bench_model.specs.declared.reading.Ask.TheVariants as ask
use Rattle.bench_model.specs.declared.reading.Plain.{Plain}
use Rattle.bench_model.specs.declared.reading.SignalValue.{SignalValue}
use Rattle.bench_model.specs.declared.reading.Reading.{Reading}
use Rattle.bench_model.specs.declared.reading.Item.TheVariants as item
use Rattle.bench_model.specs.Meaning.{bench_meaning}
use Rattle.candump_log.specs.declared.log_line.LogLine.{LogLine}
use Rattle.candump_log.specs.declared.log_line.LogLine.TheVariants as line
use Rattle.decoded_list.specs.Asking.{IsSaidOf}
use Rattle.decoded_list.specs.declared.decoder.BusDecoder.{BusDecoder}
use Rattle.decoded_list.specs.Records.{Meaning, frame_body, own_body, stamp_of, records_at}
use Rattle.decoded_list.specs.RecordsView.{one_or_none}
use Rattle.image_words.specs.Visits.{Run, IsGiven, IsGivenMatch}
use Rattle.subscriber_text.specs.Wants.{WantList}
use Rattle.subscriber_text.specs.ItemText.{item_text, items_text}
use Rattle.subscriber_text.specs.MessageParts.{record_at, message_record, first_line, signals_wanted, covered_line, covered_lines}
use Rattle.subscriber_text.specs.declared.message_parts.RecordPlace.{RecordPlace}
use Rattle.subscriber_text.specs.declared.message_parts.WantedSignals.{WantedSignals}
use Rattle.bus_text.specs.declared.printer.RecordPrinter.{RecordPrinter}
use Rattle.bus_text.specs.BusText.{reading_items}
use Rattle.bus_text.specs.PrinterView.{PrintsName, PrintsValue, IsOwnText, AreRecords, next_place}

-- what a printer makes of a name and of a value
abbrev pub named : RecordPrinter → List ℕ → RecordPrinter → Type 0
named old name new = PrintsName old name new

abbrev pub valued : RecordPrinter → SignalValue → RecordPrinter → Type 0
valued old value new = PrintsValue old value new

-- what the law of a record's parts says
abbrev pub PartsAreText : Type 0
PartsAreText = (wants : WantList) (place : RecordPlace) (message : List ℕ) (signals : List SignalValue)
    → first_line wants (message_record place message []) ++ covered_lines wants place.bus message (signals_wanted wants place.bus message) signals
    ≡ item_text wants (item.Reading (message_record place message signals))

lines_as : (w v : WantList) (p q : RecordPlace) (m n : List ℕ) (s t : WantedSignals) (vs : List SignalValue) → w ≡ v → p ≡ q → m ≡ n → s ≡ t →
    covered_lines w p.bus m s vs ≡ covered_lines v q.bus n t vs
lines_as w v p q m n s t vs a b c d =
    ap (λ (x : WantList). covered_lines x p.bus m s vs) a ∙ ap (λ (x : RecordPlace). covered_lines v x.bus m s vs) b
    ∙ ap (λ (x : List ℕ). covered_lines v q.bus x s vs) c ∙ ap (λ (x : WantedSignals). covered_lines v q.bus n x vs) d

-- values one after another
run_prints : (a b : RecordPrinter) (vs : List SignalValue) → Run valued a vs b →
    (b.wants.now ≡ a.wants.now) × (b.text.items ≡ a.text.items ++ covered_lines a.wants.now a.place.bus a.message.items a.signals vs)
unfolding Run
run_prints a b [] h = (ap (λ (p : RecordPrinter). p.wants.now) h, ap (λ (p : RecordPrinter). p.text.items) h ∙ sym (append-nil a.text.items))
run_prints a b (v ∷ vs) h =
    let rest = run_prints h.0 b vs h.2 in
    let line : List ℕ = covered_line a.wants.now a.place.bus a.message.items a.signals v in
    let left : List ℕ = covered_lines h.0.wants.now h.0.place.bus h.0.message.items h.0.signals vs in (
      rest.0 ∙ h.1.wants,
      rest.1 ∙ ap (λ (t : List ℕ). t ++ left) h.1.text ∙ append_assoc a.text.items line left
          ∙ ap (λ (t : List ℕ). a.text.items ++ (line ++ t))
          (lines_as h.0.wants.now a.wants.now h.0.place a.place h.0.message.items a.message.items h.0.signals a.signals vs h.1.wants h.1.place h.1.message h.1.signals),
    )

given_prints : PartsAreText → (a b : RecordPrinter) (plain : Plain) → IsGiven named valued a plain b →
    (b.wants.now ≡ a.wants.now) × (b.text.items ≡ a.text.items ++ item_text a.wants.now (item.Reading (message_record a.place plain.name plain.signals)))
given_prints parts a b plain g =
    let mid = g.named in
    let run = run_prints mid b plain.signals g.signals in
    let first : List ℕ = first_line a.wants.now (message_record a.place plain.name []) in
    let left : List ℕ = covered_lines mid.wants.now mid.place.bus mid.message.items mid.signals plain.signals in (
      run.0 ∙ g.name.wants,
      run.1 ∙ ap (λ (t : List ℕ). t ++ left) g.name.text ∙ append_assoc a.text.items first left
          ∙ ap (λ (t : List ℕ). a.text.items ++ (first ++ t))
          (lines_as mid.wants.now a.wants.now mid.place a.place mid.message.items plain.name mid.signals (signals_wanted a.wants.now a.place.bus plain.name) plain.signals g.name.wants g.name.place g.name.message g.name.signals)
          ∙ ap (λ (t : List ℕ). a.text.items ++ t) (parts a.wants.now a.place plain.name plain.signals),
    )

-- a walk over what a frame means, which is one of these two
match_prints : PartsAreText → (meaning : Meaning) (micros : ℕ) (key : Key) (bytes : List ℕ) (said : Option Plain) (a b : RecordPrinter) (matched : Bool) →
    a.text.items ≡ [] → said ≡ meaning (ask.Frame key) bytes → IsGivenMatch named valued a said matched b →
    (b.wants.now ≡ a.wants.now) × IsOwnText a.wants.now meaning a.place (line.Frame micros key bytes) matched b.text.items
match_prints parts meaning micros key bytes None a b matched empty e h =
    let P : Bool → Type 0 = λ m. IsOwnText a.wants.now meaning a.place (line.Frame micros key bytes) m b.text.items in
    (ap (λ (p : RecordPrinter). p.wants.now) h.1, subst P (sym h.0) (ap (λ (p : RecordPrinter). p.text.items) h.1 ∙ empty, e))
match_prints parts meaning micros key bytes (Some plain) a b matched empty e h =
    let P : Bool → Type 0 = λ m. IsOwnText a.wants.now meaning a.place (line.Frame micros key bytes) m b.text.items in
    let given = given_prints parts a b plain h.1 in
    let text : List ℕ = item_text a.wants.now (item.Reading (message_record a.place plain.name plain.signals)) in (
      given.0,
      subst P (sym h.0) (given.1 ∙ ap (λ (t : List ℕ). t ++ text) empty
          ∙ ap (λ (o : Option Plain). item_text a.wants.now (item.Reading (record_at a.place (frame_body key bytes o)))) e),
    )

pub frame_prints : PartsAreText → (meaning : Meaning) (micros : ℕ) (key : Key) (bytes payload : List ℕ) (a b : RecordPrinter) (matched : Bool) →
    a.text.items ≡ [] → bytes ≡ payload → IsGivenMatch named valued a (meaning (ask.Frame key) bytes) matched b →
    (b.wants.now ≡ a.wants.now) × IsOwnText a.wants.now meaning a.place (line.Frame micros key payload) matched b.text.items
frame_prints parts meaning micros key bytes payload a b matched empty e h =
    match_prints parts meaning micros key payload (meaning (ask.Frame key) bytes) a b matched empty (ap (λ (bs : List ℕ). meaning (ask.Frame key) bs) e) h

-- ---- the records of a line

pub records_matched : (w : WantList) (meaning : Meaning) (place : RecordPlace) (l : LogLine) (matched : Bool) (text : List ℕ) (other : Option Reading) (records : List Reading) →
    matched ≡ true → IsOwnText w meaning place l matched text → record_at place (own_body meaning l) ∷ one_or_none other ≡ records → AreRecords w records text other
records_matched w meaning place l matched text other records e own all =
    let P : Bool → Type 0 = λ m. IsOwnText w meaning place l m text in
    let size : length (record_at place (own_body meaning l) ∷ one_or_none other) ≡ length records = ap length all in
    record {
      prints = ap (λ (t : List ℕ). t ++ items_text w (reading_items (one_or_none other))) (subst P e own) ∙ ap (λ rs. items_text w (reading_items rs)) all;
      count = omega (arith, size);
    }

pub said_unmatched : (w : WantList) (meaning : Meaning) (place : RecordPlace) (l : LogLine) (matched : Bool) (text : List ℕ) →
    matched ≡ false → IsOwnText w meaning place l matched text → (text ≡ []) × IsSaidOf meaning l None
said_unmatched w meaning place l matched text e own =
    let P : Bool → Type 0 = λ m. IsOwnText w meaning place l m text in subst P e own

pub records_unmatched : (w : WantList) (text now : List ℕ) (own : Reading) (other : Option Reading) (records : List Reading) →
    text ≡ [] → now ≡ text ++ item_text w (item.Reading own) → own ∷ one_or_none other ≡ records → AreRecords w records now other
records_unmatched w text now own other records empty e all =
    let size : length (own ∷ one_or_none other) ≡ length records = ap length all in
    record {
      prints = ap (λ (t : List ℕ). t ++ items_text w (reading_items (one_or_none other))) (e ∙ ap (λ (t : List ℕ). t ++ item_text w (item.Reading own)) empty)
          ∙ ap (λ rs. items_text w (reading_items rs)) all;
      count = omega (arith, size);
    }

-- a line that is no frame asks for nothing
pub asks_nothing : (meaning : Meaning) (l : LogLine) → ((micros : ℕ) (key : Key) (payload : List ℕ) → ¬ (l ≡ line.Frame micros key payload)) → IsSaidOf meaning l None
asks_nothing meaning (line.Frame micros key payload) h = absurd (h micros key payload refl)
asks_nothing meaning (line.Remote micros key) h = tt
asks_nothing meaning (line.Error micros id) h = tt
asks_nothing meaning line.Bad h = tt

-- ---- where the record is, once the decoder has heard the line

place_of : ℕ → ℕ → ℕ → RecordPlace
place_of bus number micros = record { bus = bus; number = number; version = 0; micros = micros }

pub place_is : (bus number micros : ℕ) (d heard : BusDecoder) (l : LogLine) (place : RecordPlace) → place ≡ record { bus = bus; number = number; version = 0; micros = micros } →
    bus ≡ d.bus → number ≡ d.next → micros ≡ stamp_of l → heard ≡ record d { listener = heard.listener } → place ≡ next_place heard l
unfolding place_of
place_is bus number micros d heard l place e here count stamp same =
    e ∙ ap (λ b. place_of b number micros) here ∙ ap (λ n. place_of d.bus n micros) count ∙ ap (λ m. place_of d.bus d.next m) stamp
    ∙ ap (λ (x : BusDecoder). next_place x l) (sym same)

pub own_text_as : (v w : WantList) (bench : Bench) (bus other : ℕ) (place same : RecordPlace) (l : LogLine) (matched : Bool) (text : List ℕ) → v ≡ w → bus ≡ other → place ≡ same →
    IsOwnText v (bench_meaning bench bus) place l matched text → IsOwnText w (bench_meaning bench other) same l matched text
own_text_as v w bench bus other place same l matched text wants here there own =
    subst (λ (x : WantList). IsOwnText x (bench_meaning bench other) same l matched text) wants
    (subst (λ (b : ℕ). IsOwnText v (bench_meaning bench b) same l matched text) here
    (subst (λ (p : RecordPlace). IsOwnText v (bench_meaning bench bus) p l matched text) there own))

pub records_as : (v w : WantList) (meaning : Meaning) (d heard : BusDecoder) (before : List LogLine) (l : LogLine) (text : List ℕ) (result : Result (Option Reading) AllocError) → v ≡ w →
    heard ≡ record d { listener = heard.listener }
    → IfOk result (AreRecords v (records_at meaning heard.kind (record { bus = heard.bus; version = 0 }) before heard.next l) text)
    → IfOk result (AreRecords w (records_at meaning d.kind (record { bus = d.bus; version = 0 }) before d.next l) text)
records_as v w meaning d heard before l text result wants same are =
    subst (λ (x : WantList). IfOk result (AreRecords x (records_at meaning d.kind (record { bus = d.bus; version = 0 }) before d.next l) text)) wants
    (subst (λ (x : BusDecoder). IfOk result (AreRecords v (records_at meaning x.kind (record { bus = x.bus; version = 0 }) before x.next l) text)) same are)
