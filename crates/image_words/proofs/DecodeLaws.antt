-- The rows of a bus, of a message and of its signals say what bytes mean.
use Rattle.std.proofs.Common.{◌≡◌, ◌∙◌, ℕ, ◌+◌, ◌*◌, ◌<◌, ◌≤◌, ℤ, true, false, List, [], ◌∷◌, ◌++◌, length, drop, Option, Some, None, refl, ap, sym, subst, arith, append_assoc, append-nil}
use Rattle.std.specs.Prelude.{slice_get, All}
use Rattle.std.specs.List.{filter_map, cons_option, enumerate_from}
use Rattle.std.specs.Option.{option_to_list}
use Rattle.std.proofs.lemmas.Option.{slice_get_within}
use Rattle.bench_model.specs.declared.database.Coding.{Coding}
use Rattle.bench_model.specs.declared.database.Coding.TheVariants.{Scaled, Listed}
use Rattle.bench_model.specs.declared.database.Signal.{Signal}
use Rattle.bench_model.specs.declared.database.Message.{Message}
use Rattle.bench_model.specs.declared.database.Bus.{Bus}
use Rattle.bench_model.specs.declared.database.Bench.{Bench}
use Rattle.bench_model.specs.declared.reading.Ask.{Ask}
use Rattle.bench_model.specs.declared.reading.SignalValue.{SignalValue}
use Rattle.bench_model.specs.declared.reading.Plain.{Plain}
use Rattle.multiplex_tree.specs.Activity.{is_active}
use Rattle.bench_model.specs.Raw.{raw_value}
use Rattle.bench_model.specs.Limits.{most_messages}
use Rattle.bench_model.specs.Decodable.{IsDecodable}
use Rattle.bench_model.specs.Check.{IsValid}
use Rattle.bench_model.specs.ValidBench.{IsValidBus}
use Rattle.bench_model.specs.Meaning.{matching, raw_values, physical, message_meaning, bench_meaning}
use Rattle.image_words.specs.declared.rows.BusRow.{BusRow}
use Rattle.image_words.specs.declared.rows.MessageRow.{MessageRow}
use Rattle.image_words.specs.declared.rows.CodingRow.{CodingRow}
use Rattle.image_words.specs.declared.rows.SignalRow.{SignalRow}
use Rattle.image_words.specs.Layout.{word, message_words, signal_words, entry_words, HasRows, HasText}
use Rattle.image_words.specs.Index.{key_entries, groups_on, HasIndex}
use Rattle.image_words.specs.Image.{kind_of, HasEntry, HasCoding, HasSignal, HasDecodable, HasParent, HasMessage, HasBus}
use Rattle.image_words.specs.Knowledge.{Knowledge, SomeFits, Holds}
use Rattle.image_words.specs.Reading.{EachHas, EachIs, LabelsAt, SignalAt, SignalsAt, MessageAt, IsBusRow, IsMessageRow, IsCodingRow, IsSignalRow, IsCodingOf, SignalOf, IsValueAt}
use Rattle.image_words.specs.Found.{IsFoundAt, BusOf}
use Rattle.image_words.proofs.SearchLaws.{all_at, drop_at}
use Rattle.image_words.proofs.RowLaws.{row_of, scale_read}
use Rattle.image_words.proofs.ActiveLaws.{signal_of, has_shape}

-- ---- signals

pub each_signal : (k : Knowledge) (at count place : ℕ) → EachHas k (SignalsAt at count) → place < count → EachHas k (SignalAt (at + signal_words * place))
each_signal k at count place has h image bench f =
    let m = has image bench f in
    let s = signal_of at count place image m.0 m.1 h in
    (s.0, s.2)

coding_of : (image : List ℕ) (at : ℕ) (row : CodingRow) (coding : Coding) → IsCodingRow image at row → HasCoding image at coding → IsCodingOf row image coding
coding_of image at row (Scaled scale unit labels) w h =
    let R : ℕ → ℕ → Type 0 = λ from n. LabelsAt from n image labels in
    let moved = subst (λ (from : ℕ). R from (word image (at + 2))) w.choices_at h.rows in
    let P : ℕ → Type 0 = λ r. HasText image r unit in
    let offset : word image (at + 3 + 1) ≡ row.offset = (let e : at + 3 + 1 ≡ at + 4 = omega arith in ap (word image) e ∙ w.offset) in
    let places : word image (at + 3 + 2) ≡ row.places = (let e : at + 3 + 2 ≡ at + 5 = omega arith in ap (word image) e ∙ w.places) in
    record {
      kind = sym w.kind ∙ h.kind;
      rows = subst (R row.choices_at) w.choices moved;
      scaling = scale_read image (at + 3) row.factor row.offset row.places scale h.scaling w.factor offset places;
      unit_text = subst P w.unit_text h.unit_text;
    }
coding_of image at row (Listed entries) w h =
    let R : ℕ → ℕ → Type 0 = λ from n. HasRows (HasEntry image) entry_words from n entries in
    let moved = subst (λ (from : ℕ). R from (word image (at + 2))) w.choices_at h.rows in
    record { kind = sym w.kind ∙ h.kind; rows = subst (R row.choices_at) w.choices moved }

pub signal_is : (image : List ℕ) (at : ℕ) (row : SignalRow) (s : Signal) → IsSignalRow image at row → HasDecodable image at s → SignalOf row image s
signal_is image at row s w h =
    let P : ℕ → Type 0 = λ r. HasText image r s.name in
    record {
      name = subst P w.name h.signal.name;
      shape = has_shape image at row.level s w.level h.signal;
      coding = record { is_of = coding_of image (at + 5) row.coding s.coding w.coding h.signal.coding; limits = h.decodable.coding };
    }

one_signal : (signals : List Signal) (place : ℕ) (a b : Signal) → slice_get signals place ≡ Some a → slice_get signals place ≡ Some b → a ≡ b
one_signal signals place a b e f = cc

-- the value where the signal is not active, where it is absent, and else
pub value_inactive : (bytes : List ℕ) (m : Message) (place : ℕ) → is_active m.tree.parents (raw_values bytes m.signals) place ≡ false → IsValueAt bytes m place None
value_inactive bytes m place e s at = rw e refl

pub value_absent : (bytes : List ℕ) (m : Message) (place : ℕ) (own : Signal) → is_active m.tree.parents (raw_values bytes m.signals) place ≡ true →
    slice_get m.signals place ≡ Some own → None ≡ raw_value own bytes → IsValueAt bytes m place None
value_absent bytes m place own active there none s at =
    let same : own ≡ s = one_signal m.signals place own s there at in
    let gone : raw_value s bytes ≡ None = sym (none ∙ ap (λ (x : Signal). raw_value x bytes) same) in
    rw (active, gone) refl

pub value_present : (bytes : List ℕ) (m : Message) (place : ℕ) (own : Signal) (raw : ℤ) (value : SignalValue) →
    is_active m.tree.parents (raw_values bytes m.signals) place ≡ true → slice_get m.signals place ≡ Some own →
    Some raw ≡ raw_value own bytes → value ≡ physical own raw → IsValueAt bytes m place (Some value)
value_present bytes m place own raw value active there is v s at =
    let same : own ≡ s = one_signal m.signals place own s there at in
    let here : raw_value s bytes ≡ Some raw = sym (is ∙ ap (λ (x : Signal). raw_value x bytes) same) in
    rw (active, here) (ap Some (v ∙ ap (λ (x : Signal). physical x raw) same))

-- ---- the values of all signals

cons_behind : {X : Type 0} (before rest : List X) (v : Option X) → before ++ cons_option v rest ≡ (before ++ option_to_list v) ++ rest
cons_behind before rest None = ap (λ xs. xs ++ rest) (sym (append-nil before))
cons_behind before rest (Some x) = sym (append_assoc before (x ∷ []) rest)

pub values_more : (f : ℕ × Signal → Option SignalValue) (xs : List Signal) (i : ℕ) (s : Signal) (v : Option SignalValue) (before after all : List SignalValue) →
    slice_get xs i ≡ Some s → v ≡ f (i, s) → after ≡ before ++ option_to_list v →
    before ++ filter_map f (enumerate_from i (drop i xs)) ≡ all → after ++ filter_map f (enumerate_from (i + 1) (drop (i + 1) xs)) ≡ all
values_more f xs i s v before after all at e grown so_far =
    let rest : List SignalValue = filter_map f (enumerate_from (i + 1) (drop (i + 1) xs)) in
    let split : filter_map f (enumerate_from i (drop i xs)) ≡ cons_option (f (i, s)) rest =
    ap (λ (ys : List Signal). filter_map f (enumerate_from i ys)) (drop_at xs i s at) in
    ap (λ (ys : List SignalValue). ys ++ rest) grown
    ∙ sym (cons_behind before rest v)
    ∙ ap (λ (w : Option SignalValue). before ++ cons_option w rest) e
    ∙ ap (λ (ys : List SignalValue). before ++ ys) (sym split)
    ∙ so_far

-- ---- messages

pub message_within : (k : Knowledge) (at : ℕ) → SomeFits k → EachHas k (MessageAt at) → at + message_words ≤ k.size
message_within k at some has =
    let m = has some.image some.bench some.fits in
    omega (arith, m.1.message.within, some.fits.encodes.whole, some.fits.size)

pub message_name : (image : List ℕ) (at : ℕ) (row : MessageRow) (m : Message) → IsMessageRow image at row → MessageAt at image m → HasText image row.name m.name
message_name image at row m w h = let P : ℕ → Type 0 = λ r. HasText image r m.name in subst P w.name h.message.name

pub message_signals : (image : List ℕ) (at : ℕ) (row : MessageRow) (m : Message) → IsMessageRow image at row → MessageAt at image m →
    SignalsAt row.signals_at row.signals image m
message_signals image at row m w h =
    let R : ℕ → ℕ → Type 0 = λ from n. HasRows (HasSignal image) signal_words from n m.signals in
    let Q : ℕ → ℕ → Type 0 = λ from n. HasRows (HasParent image) signal_words from n m.tree.parents in
    let moved = subst (λ (from : ℕ). R from (word image (at + 3))) w.signals_at h.message.signals in
    let also = subst (λ (from : ℕ). Q from (word image (at + 3))) w.signals_at h.message.parents in
    record { signals = subst (R row.signals_at) w.signals moved; parents = subst (Q row.signals_at) w.signals also; decodable = h.decodable }

-- ---- buses

pub bus_there : (k : Knowledge) (bus : ℕ) → bus < k.buses → Holds k (λ image bench. (b : Bus) × (slice_get bench.buses bus ≡ Some b) × HasBus image (2 + 7 * bus) b)
bus_there k bus h image bench f = row_of (HasBus image) 7 2 (word image 1) bench.buses bus f.encodes.buses (omega (arith, h, f.buses, f.encodes.buses.size))

pub bus_within : (k : Knowledge) (bus : ℕ) → SomeFits k → bus < k.buses → 2 + 7 * bus + 7 ≤ k.size
bus_within k bus some h =
    let b = bus_there k bus h some.image some.bench some.fits in
    omega (arith, b.2.within, some.fits.encodes.whole, some.fits.size)

pub bus_is : (image : List ℕ) (at : ℕ) (row : BusRow) (b : Bus) → IsBusRow image at row → HasBus image at b → length b.database.messages ≤ most_messages →
    All IsDecodable b.database.messages → BusOf row image b
bus_is image at row b w h few decodable =
    let R : ℕ → ℕ → Type 0 = λ from n. HasRows (HasMessage image) message_words from n b.database.messages in
    let K : ℕ → ℕ → Type 0 = λ from n. HasIndex image (key_entries 0 b.database.messages) from n in
    let G : ℕ → ℕ → Type 0 = λ from n. HasIndex image (groups_on b.kind b.database.messages) from n in
    let messages = subst (λ (from : ℕ). R from (word image (at + 2))) w.messages_at h.messages in
    let keys = subst (λ (from : ℕ). K from (word image (at + 2))) w.keys_at h.keys in
    let groups = subst (λ (from : ℕ). G from (word image (at + 5))) w.groups_at h.groups in
    record {
      kind = h.kind ∙ ap kind_of w.kind;
      number = omega (arith, h.number, w.kind);
      messages = subst (R row.messages_at) w.messages messages;
      keys = subst (K row.keys_at) w.messages keys;
      groups = subst (G row.groups_at) w.groups groups;
      few = few;
      decodable = decodable;
    }

-- the database of a bus of a valid bench
pub valid_at : (bench : Bench) (bus : ℕ) (b : Bus) → All IsValidBus bench.buses → slice_get bench.buses bus ≡ Some b → IsValid b.database
valid_at bench bus b all at = (all_at IsValidBus bench.buses bus b all at).database

found_some : (ms : List Message) (position : ℕ) (found : Option Message) → IsFoundAt ms (Some position) found →
    (m : Message) × (found ≡ Some m) × (slice_get ms position ≡ Some m)
found_some ms position None h = absurd h
found_some ms position (Some m) h = (m, refl, h)

found_none : (ms : List Message) (found : Option Message) → IsFoundAt ms None found → found ≡ None
found_none ms None h = refl
found_none ms (Some m) h = absurd h

one_message : (ms : List Message) (position : ℕ) (a b : Message) → slice_get ms position ≡ Some a → slice_get ms position ≡ Some b → a ≡ b
one_message ms position a b e f = cc

-- the message that is found is in its row
pub message_there : (image : List ℕ) (row : BusRow) (b : Bus) (ask : Ask) (position : ℕ) → BusOf row image b →
    IsFoundAt b.database.messages (Some position) (matching b.kind ask b.database.messages) →
    (m : Message) × (matching b.kind ask b.database.messages ≡ Some m) × MessageAt (row.messages_at + 5 * position) image m
message_there image row b ask position has found =
    let m = found_some b.database.messages position (matching b.kind ask b.database.messages) found in
    let within : position < row.messages = omega (arith, slice_get_within b.database.messages position m.0 m.2, has.messages.size) in
    let own = row_of (HasMessage image) 5 row.messages_at row.messages b.database.messages position has.messages within in
    let same : own.0 ≡ m.0 = one_message b.database.messages position own.0 m.0 own.1 m.2 in
    let P : Message → Type 0 = λ x. HasMessage image (row.messages_at + 5 * position) x in
    (m.0, m.1, record { message = subst P same own.2; decodable = all_at IsDecodable b.database.messages position m.0 has.decodable m.2 })

pub each_message : (k : Knowledge) (row : BusRow) (ask : Ask) (position : ℕ) → EachHas k (BusOf row) →
    EachIs k (BusOf row) (λ image (b : Bus). IsFoundAt b.database.messages (Some position) (matching b.kind ask b.database.messages)) →
    EachHas k (MessageAt (row.messages_at + 5 * position))
each_message k row ask position has found image bench f =
    let b = has image bench f in
    let m = message_there image row b.0 ask position b.1 (found image bench f b.0 b.1) in
    (m.0, m.2)

-- ---- the meaning

pub meaning_none : (bench : Bench) (bus : ℕ) (ask : Ask) (bytes : List ℕ) (b : Bus) → slice_get bench.buses bus ≡ Some b →
    IsFoundAt b.database.messages None (matching b.kind ask b.database.messages) → None ≡ bench_meaning bench bus ask bytes
meaning_none bench bus ask bytes b at found =
    let none : matching b.kind ask b.database.messages ≡ None = found_none b.database.messages (matching b.kind ask b.database.messages) found in
    rw (at, none) refl

pub meaning_some : (bench : Bench) (bus : ℕ) (ask : Ask) (bytes : List ℕ) (b : Bus) (m : Message) (plain : Plain) → slice_get bench.buses bus ≡ Some b →
    matching b.kind ask b.database.messages ≡ Some m → plain ≡ message_meaning bytes m → Some plain ≡ bench_meaning bench bus ask bytes
meaning_some bench bus ask bytes b m plain at found e = rw (at, found) (ap Some e)
