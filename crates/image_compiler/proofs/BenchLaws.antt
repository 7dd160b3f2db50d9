-- The layout of a bench has its size and encodes it.
use Rattle.std.proofs.Common.{◌≡◌, ◌∙◌, ℕ, suc, ◌+◌, ◌*◌, ◌/◌, ◌%◌, ◌<◌, ◌≤◌, ◌==◌, Bool, true, false, List, [], ◌∷◌, ◌++◌, length, get_or, Option, refl, ap, sym, subst, arith, length-append}
use Rattle.std.specs.Prelude.{All, if◌then◌else◌}
use Rattle.multiplex_tree.specs.declared.mark.Parent.{Parent}
use Rattle.bench_model.specs.declared.database.Kind.{Kind}
use Rattle.bench_model.specs.declared.database.Kind.TheVariants.{Can, J1939, Lin}
use Rattle.bench_model.specs.declared.database.Signal.{Signal}
use Rattle.bench_model.specs.declared.database.Message.{Message}
use Rattle.bench_model.specs.declared.database.Bus.{Bus}
use Rattle.bench_model.specs.declared.database.Bench.{Bench}
use Rattle.bench_model.specs.Limits.{IsMade, IsCoding}
use Rattle.bench_model.specs.Rules.{KeepsMessageRules, KeepsSignalRules}
use Rattle.bench_model.specs.declared.database.Database.{Database}
use Rattle.bench_model.specs.Check.{IsValid}
use Rattle.bench_model.specs.Rules.{KeepsRules}
use Rattle.bench_model.specs.ValidBench.{IsValidBench}
use Rattle.image_words.specs.Layout.{word, header_words, bus_words, message_words, signal_words, HasRows}
use Rattle.image_words.specs.Index.{extended_from, key_entries, groups_on, HasIndex}
use Rattle.image_words.specs.Image.{HasSignal, HasParent, HasMessage, HasBus, Encodes, kind_of}
use Rattle.image_compiler.specs.Size.{total, table_size, text_size, signal_behind, parent_behind, message_behind, bus_behind, image_size}
use Rattle.image_compiler.specs.Layout.{text_words, table_words, parts_from, signal_parts, parent_parts, signal_rows, signals_words, message_row, message_parts, ascending, bus_row, bus_parts, kind_number, layout}
use Rattle.image_compiler.specs.Typed.{IsTypedSignal, IsTypedMessage, IsTypedBus}
use Rattle.image_compiler.proofs.ListLaws.{LiesAt, lies_first, lies_word, lies_left, lies_right, lies_at, all_both, table_total, table_long, table_lies, all_parts_long}
use Rattle.image_compiler.proofs.TextLaws.{text_long, text_lies}
use Rattle.image_compiler.proofs.AscendingLaws.{ascending_long, index_lies}
use Rattle.image_compiler.proofs.RowLaws.{rows_at}
use Rattle.image_compiler.proofs.SignalLaws.{IsGoodSignal, parent_parts_long, signal_parts_long, signal_rows_long, signals_lie}

-- ---- messages

abbrev pub IsGoodMessage : Message → Type 0
IsGoodMessage m = IsMade m × (KeepsMessageRules m × IsTypedMessage m)

message_row_long : (place : ℕ) (m : Message) → length (message_row place m) ≡ message_words
message_row_long place m = refl

signal_lists_long : (first ranges : ℕ) (ss : List Signal) (ps : List (Option Parent)) → length ps ≡ length ss →
    length (signal_rows first ranges ss ps ++ (parts_from signal_parts signal_behind first ss ++ parts_from parent_parts parent_behind ranges ps))
    ≡ table_size signal_words signal_behind ss + total parent_behind ps
signal_lists_long first ranges ss ps same =
    let rows : List ℕ = signal_rows first ranges ss ps in
    let parts : List ℕ = parts_from signal_parts signal_behind first ss in
    let lists : List ℕ = parts_from parent_parts parent_behind ranges ps in
    let a : length parts ≡ total signal_behind ss =
    all_parts_long (λ (s : Signal). Unit {0}) 0 (λ p s. []) signal_parts signal_behind (λ p s. refl) (λ p s any. signal_parts_long p s) first ss (λ k d h. tt) in
    let b : length lists ≡ total parent_behind ps =
    all_parts_long (λ (p : Option Parent). Unit {0}) 0 (λ q p. []) parent_parts parent_behind (λ q p. refl) (λ q p any. parent_parts_long q p) ranges ps (λ k d h. tt) in
    omega (
      arith,
      length-append rows (parts ++ lists),
      length-append parts lists,
      signal_rows_long first ranges ss ps same,
      a,
      b,
      table_total signal_words signal_behind ss,
    )

message_parts_long : (place : ℕ) (m : Message) → IsGoodMessage m → length (message_parts place m) ≡ message_behind m
message_parts_long place m good =
    let at : ℕ = place + text_size m.name in
    let first : ℕ = at + signal_words * length m.signals in
    let long : length (signals_words at m) ≡ table_size signal_words signal_behind m.signals + total parent_behind m.tree.parents =
    signal_lists_long first (first + total signal_behind m.signals) m.signals m.tree.parents good.0.tree.number in
    omega (arith, length-append (text_words m.name) (signals_words at m), text_long m.name, long)

key_below : (w id : ℕ) (extended : Bool) → id < extended_from → w ≡ (if extended then id + extended_from else id) → w < 2 * extended_from
key_below w id true h e = omega (arith, h, e)
key_below w id false h e = omega (arith, h, e)

key_id : (w id : ℕ) (extended : Bool) → id < extended_from → w ≡ (if extended then id + extended_from else id) → id ≡ w % extended_from
key_id w id true h e = omega (arith, h, e)
key_id w id false h e = omega (arith, h, e)

key_extended : (w id : ℕ) (extended : Bool) → id < extended_from → w ≡ (if extended then id + extended_from else id) → extended ≡ (w / extended_from == 1)
key_extended w id true h e = let bit : 1 ≡ w / extended_from = omega (arith, h, e) in ap (λ (n : ℕ). n == 1) bit
key_extended w id false h e = let bit : 0 ≡ w / extended_from = omega (arith, h, e) in ap (λ (n : ℕ). n == 1) bit

-- the signals of a message and their parents
signal_lists_lie : (words : List ℕ) (at : ℕ) (ss : List Signal) (ps : List (Option Parent)) → All IsGoodSignal ss → length ps ≡ length ss →
    (first ranges : ℕ) → first ≡ at + signal_words * length ss → ranges ≡ first + total signal_behind ss →
    LiesAt words at (signal_rows first ranges ss ps ++ (parts_from signal_parts signal_behind first ss ++ parts_from parent_parts parent_behind ranges ps)) →
    2 ≤ at → at + (table_size signal_words signal_behind ss + total parent_behind ps) ≤ word words 0 →
    HasRows (HasSignal words) signal_words at (length ss) ss × HasRows (HasParent words) signal_words at (length ss) ps
signal_lists_lie words at ss ps good same first ranges e f s past h =
    let rows : List ℕ = signal_rows first ranges ss ps in
    let parts : List ℕ = parts_from signal_parts signal_behind first ss in
    let lists : List ℕ = parts_from parent_parts parent_behind ranges ps in
    let sum = table_total signal_words signal_behind ss in
    let a : length parts ≡ total signal_behind ss =
    all_parts_long (λ (x : Signal). Unit {0}) 0 (λ p x. []) signal_parts signal_behind (λ p x. refl) (λ p x any. signal_parts_long p x) first ss (λ k d i. tt) in
    let behind = lies_right words at (signal_words * length ss) rows (parts ++ lists) (signal_rows_long first ranges ss ps same) s in
    let there = lies_at words (at + signal_words * length ss) first (parts ++ lists) (sym e) behind in
    let last = lies_right words first (total signal_behind ss) parts lists a there in
    let both = signals_lie words at first ranges ss ps good same (lies_left words at rows (parts ++ lists) s) (lies_left words first parts lists there)
    (lies_at words (first + total signal_behind ss) ranges lists (sym f) last)
    (omega (arith, past, e)) (omega (arith, h, sum, e)) (omega (arith, h, sum, e, f)) (omega (arith, h, sum)) in
    (record { size = refl; each = both.0 }, record { size = same; each = both.1 })

message_one : (words : List ℕ) (at place : ℕ) (m : Message) → IsGoodMessage m → LiesAt words at (message_row place m) → LiesAt words place (message_parts place m) →
    2 ≤ place → place + message_behind m ≤ word words 0 → at + message_words ≤ word words 0 → HasMessage words at m
message_one words at place m good s t past h k =
    let rules = good.1.0 in
    let typed = good.1.1 in
    let key = lies_first words at _ _ s in
    let there : ℕ = place + text_size m.name in
    let first : ℕ = there + signal_words * length m.signals in
    let signals = all_both (λ (x : Signal). IsCoding x.coding) (λ x. KeepsSignalRules x × IsTypedSignal x) m.signals good.0.codings
    (all_both KeepsSignalRules IsTypedSignal m.signals rules.signals typed.signals) in
    let both = signal_lists_lie words there m.signals m.tree.parents signals good.0.tree.number first (first + total signal_behind m.signals) refl refl
    (lies_right words place (text_size m.name) (text_words m.name) (signals_words there m) (text_long m.name) t) (omega (arith, past)) (omega (arith, h)) in
    let number = lies_word words at 3 _ (omega arith) s in
    let spot = lies_word words at 4 _ (omega arith) s in
    record {
      within = k;
      key = key_below (word words at) m.key.id m.key.extended typed.id key;
      id = key_id (word words at) m.key.id m.key.extended typed.id key;
      extended = key_extended (word words at) m.key.id m.key.extended typed.id key;
      name = text_lies words (at + 1) place m.name typed.name (omega (arith, rules.name.bytes)) (lies_word words at 1 _ (omega arith) s)
          (lies_left words place (text_words m.name) (signals_words there m) t) past (omega (arith, h));
      size = sym (lies_word words at 2 _ (omega arith) s);
      signals = rows_at (HasSignal words) signal_words there (length m.signals) (word words (at + 4)) (word words (at + 3)) m.signals spot number both.0;
      parents = rows_at (HasParent words) signal_words there (length m.signals) (word words (at + 4)) (word words (at + 3)) m.tree.parents spot number both.1;
    }

-- ---- buses

pub record IsGoodBus (bus : Bus) : Type 0 where
  pub bytes : length bus.name ≤ 32
  pub typed : IsTypedBus bus
  pub messages : All IsGoodMessage bus.database.messages

bus_row_long : (place : ℕ) (bus : Bus) → length (bus_row place bus) ≡ bus_words
bus_row_long place bus = refl

key_entries_long : (position : ℕ) (ms : List Message) → length (key_entries position ms) ≡ length ms
unfolding key_entries
key_entries_long position [] = refl
key_entries_long position (m ∷ ms) = ap suc (key_entries_long (suc position) ms)

messages_long : (place : ℕ) (ms : List Message) → All IsGoodMessage ms →
    length (table_words message_words message_row message_parts message_behind place ms) ≡ table_size message_words message_behind ms
messages_long place ms good = table_long IsGoodMessage message_words message_row message_parts message_behind message_row_long message_parts_long place ms good

bus_parts_long : (place : ℕ) (bus : Bus) → IsGoodBus bus → length (bus_parts place bus) ≡ bus_behind bus
bus_parts_long place bus good =
    let ms : List Message = bus.database.messages in
    let table : List ℕ = table_words message_words message_row message_parts message_behind (place + text_size bus.name) ms in
    let keys : List ℕ = ascending (key_entries 0 ms) in
    let groups : List ℕ = ascending (groups_on bus.kind ms) in
    omega (
      arith,
      length-append (text_words bus.name) (table ++ (keys ++ groups)),
      length-append table (keys ++ groups),
      length-append keys groups,
      text_long bus.name,
      messages_long (place + text_size bus.name) ms good.messages,
      ascending_long (key_entries 0 ms),
      key_entries_long 0 ms,
      ascending_long (groups_on bus.kind ms),
    )

kind_below : (w : ℕ) (kind : Kind) → w ≡ kind_number kind → w < 3
kind_below w Can e = omega (arith, e)
kind_below w J1939 e = omega (arith, e)
kind_below w Lin e = omega (arith, e)

kind_back : (w : ℕ) (kind : Kind) → w ≡ kind_number kind → kind ≡ kind_of w
kind_back w Can e = ap kind_of (sym e)
kind_back w J1939 e = ap kind_of (sym e)
kind_back w Lin e = ap kind_of (sym e)

index_at : (words entries : List ℕ) (at count a c : ℕ) → a ≡ at → c ≡ count → HasIndex words entries at count → HasIndex words entries a c
index_at words entries at count a c e f h =
    let P : ℕ → Type 0 = λ p. HasIndex words entries p count in
    let Q : ℕ → Type 0 = λ n. HasIndex words entries a n in
    subst Q (sym f) (subst P (sym e) h)

bus_one : (words : List ℕ) → word words 0 ≤ length words → (at place : ℕ) (bus : Bus) → IsGoodBus bus → LiesAt words at (bus_row place bus) →
    LiesAt words place (bus_parts place bus) → 2 ≤ place → place + bus_behind bus ≤ word words 0 → at + bus_words ≤ word words 0 → HasBus words at bus
bus_one words whole at place bus good s t past h k =
    let ms : List Message = bus.database.messages in
    let there : ℕ = place + text_size bus.name in
    let table : List ℕ = table_words message_words message_row message_parts message_behind there ms in
    let keys : List ℕ = ascending (key_entries 0 ms) in
    let groups : List ℕ = ascending (groups_on bus.kind ms) in
    let keys_at : ℕ = there + table_size message_words message_behind ms in
    let kind = lies_first words at _ _ s in
    let behind = lies_right words place (text_size bus.name) (text_words bus.name) (table ++ (keys ++ groups)) (text_long bus.name) t in
    let indexes = lies_right words there (table_size message_words message_behind ms) table (keys ++ groups) (messages_long there ms good.messages) behind in
    let count : length keys ≡ length ms = ascending_long (key_entries 0 ms) ∙ key_entries_long 0 ms in
    let last = lies_right words keys_at (length ms) keys groups count indexes in
    let rows = table_lies IsGoodMessage message_words message_row message_parts message_behind message_row_long message_parts_long words (HasMessage words) (message_one words)
    there ms good.messages (lies_left words there table (keys ++ groups) behind) (omega (arith, past)) (omega (arith, h)) in
    let number = lies_word words at 2 _ (omega arith) s in
    record {
      within = k;
      number = kind_below (word words at) bus.kind kind;
      kind = kind_back (word words at) bus.kind kind;
      name = text_lies words (at + 1) place bus.name good.typed.name (omega (arith, good.bytes)) (lies_word words at 1 _ (omega arith) s)
          (lies_left words place (text_words bus.name) (table ++ (keys ++ groups)) t) past (omega (arith, h));
      messages = rows_at (HasMessage words) message_words there (length ms) (word words (at + 3)) (word words (at + 2)) ms
          (lies_word words at 3 _ (omega arith) s) number rows;
      keys = index_at words (key_entries 0 ms) keys_at (length ms) (word words (at + 4)) (word words (at + 2))
          (lies_word words at 4 _ (omega arith) s) number
          (index_lies words (key_entries 0 ms) keys_at (length ms) (lies_left words keys_at keys groups indexes) (sym (key_entries_long 0 ms))
          (omega (arith, h, key_entries_long 0 ms)) whole);
      groups = index_at words (groups_on bus.kind ms) (keys_at + length ms) (length (groups_on bus.kind ms)) (word words (at + 6)) (word words (at + 5))
          (lies_word words at 6 _ (omega arith) s) (lies_word words at 5 _ (omega arith) s)
          (index_lies words (groups_on bus.kind ms) (keys_at + length ms) (length (groups_on bus.kind ms)) last refl (omega (arith, h)) whole);
    }

-- ---- the bench

buses_long : (bench : Bench) → All IsGoodBus bench.buses →
    length (table_words bus_words bus_row bus_parts bus_behind header_words bench.buses) ≡ table_size bus_words bus_behind bench.buses
buses_long bench good = table_long IsGoodBus bus_words bus_row bus_parts bus_behind bus_row_long bus_parts_long header_words bench.buses good

pub layout_long : (bench : Bench) → All IsGoodBus bench.buses → length (layout bench) ≡ image_size bench
unfolding layout
layout_long bench good = let rest = buses_long bench good in omega (arith, rest)

whole_lies : (words : List ℕ) → LiesAt words 0 words
whole_lies words = record { each = λ i h. let e : 0 + i ≡ i = omega arith in ap (λ (p : ℕ). get_or words p 0) e }

layout_lies : (bench : Bench) → LiesAt (layout bench) header_words (table_words bus_words bus_row bus_parts bus_behind header_words bench.buses)
unfolding layout
layout_lies bench =
    lies_right (layout bench) 0 2 (image_size bench ∷ length bench.buses ∷ []) (table_words bus_words bus_row bus_parts bus_behind header_words bench.buses) refl
    (whole_lies (layout bench))

layout_length : (bench : Bench) → word (layout bench) 0 ≡ image_size bench
unfolding layout
layout_length bench = refl

layout_buses : (bench : Bench) → word (layout bench) 1 ≡ length bench.buses
unfolding layout
layout_buses bench = refl

pub layout_encodes : (bench : Bench) → All IsGoodBus bench.buses → Encodes (layout bench) bench
layout_encodes bench good =
    let image : List ℕ = layout bench in
    let size = layout_length bench in
    let whole : word image 0 ≤ length image = omega (arith, size, layout_long bench good) in
    let rows = table_lies IsGoodBus bus_words bus_row bus_parts bus_behind bus_row_long bus_parts_long image (HasBus image) (bus_one image whole)
    header_words bench.buses good (layout_lies bench) (omega arith) (omega (arith, size)) in
    record {
      header = omega (arith, size);
      whole = whole;
      buses = rows_at (HasBus image) bus_words header_words (length bench.buses) header_words (word image 1) bench.buses refl (layout_buses bench) rows;
    }

-- the buses of a valid bench, where each valid database keeps the rules
pub good_buses : (bench : Bench) → IsValidBench bench → ((d : Database) → IsValid d → KeepsRules d) → All IsTypedBus bench.buses → All IsGoodBus bench.buses
good_buses bench valid keeps typed = λ i d h.
    let bus = valid.valid i d h in
    let here = typed i d h in
    let rules = keeps _ bus.database in
    record {
      bytes = bus.bytes;
      typed = here;
      messages = all_both IsMade (λ m. KeepsMessageRules m × IsTypedMessage m) _ bus.database.made (all_both KeepsMessageRules IsTypedMessage _ rules.messages here.messages);
    }

pub image_encodes : (bench : Bench) (image : List ℕ) → IsValidBench bench → ((d : Database) → IsValid d → KeepsRules d) → All IsTypedBus bench.buses →
    image ≡ layout bench → Encodes image bench
image_encodes bench image valid keeps typed e =
    let P : List ℕ → Type 0 = λ words. Encodes words bench in
    subst P (sym e) (layout_encodes bench (good_buses bench valid keeps typed))

pub image_long : (bench : Bench) (image : List ℕ) → IsValidBench bench → ((d : Database) → IsValid d → KeepsRules d) → All IsTypedBus bench.buses →
    image ≡ layout bench → length image ≡ image_size bench
image_long bench image valid keeps typed e = ap length e ∙ layout_long bench (good_buses bench valid keeps typed)

-- the header and the rows are all
pub layout_is : (bench : Bench) (none first second image : List ℕ) (size : ℕ) → none ≡ [] → first ≡ none ++ size ∷ [] → second ≡ first ++ length bench.buses ∷ [] →
    image ≡ second ++ table_words bus_words bus_row bus_parts bus_behind header_words bench.buses → size ≡ image_size bench → image ≡ layout bench
unfolding layout
layout_is bench none first second image size e1 e2 e3 e4 e5 = rw (e4, e3, e2, e1, e5) refl

pub layout_of : (bench : Bench) (buses : List Bus) (none first second image : List ℕ) (size : ℕ) → buses ≡ bench.buses → none ≡ [] → first ≡ none ++ size ∷ [] →
    second ≡ first ++ length buses ∷ [] → image ≡ second ++ table_words bus_words bus_row bus_parts bus_behind header_words buses → size ≡ image_size bench → image ≡ layout bench
layout_of bench buses none first second image size e0 e1 e2 e3 e4 e5 =
    let count : second ≡ first ++ length bench.buses ∷ [] = e3 ∙ ap (λ (bs : List Bus). first ++ length bs ∷ []) e0 in
    let rows : image ≡ second ++ table_words bus_words bus_row bus_parts bus_behind header_words bench.buses =
    e4 ∙ ap (λ (bs : List Bus). second ++ table_words bus_words bus_row bus_parts bus_behind header_words bs) e0 in
    layout_is bench none first second image size e1 e2 count rows e5
