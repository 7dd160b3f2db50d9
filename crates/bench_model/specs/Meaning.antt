-- What a frame's bytes mean under a database, after the DBC and LDF formats, and for J1939 buses after
-- SAE J1939-21's parameter group numbers.
use Rattle.std.specs.Prelude.{ℕ, ◌*◌, ◌/◌, ◌%◌, ◌^◌, ◌==◌, ◌&&◌, ℤ, pos, negsuc, Bool, true, false, List, [], find, map, Option, Some, None, slice_get, nat_le, nat_lt, if◌then◌else◌}
use Rattle.std.specs.List.{filter_map, enumerate_from}
use Rattle.std.specs.Ordering.{int_eq}
use Rattle.std.specs.Option.{option_map}
use Rattle.multiplex_tree.specs.declared.mark.Parent.{Parent}
use Rattle.multiplex_tree.specs.Activity.{is_active}
use Rattle.bench_model.specs.declared.database.Key.{Key}
use Rattle.bench_model.specs.declared.database.Kind.{Kind}
use Rattle.bench_model.specs.declared.database.Kind.TheVariants as kind
use Rattle.bench_model.specs.declared.database.Label.{Label}
use Rattle.bench_model.specs.declared.database.Entry.{Entry}
use Rattle.bench_model.specs.declared.database.Entry.TheVariants as entry
use Rattle.bench_model.specs.declared.database.Coding.{Coding}
use Rattle.bench_model.specs.declared.database.Coding.TheVariants.{Scaled, Listed}
use Rattle.bench_model.specs.declared.database.Signal.{Signal}
use Rattle.bench_model.specs.declared.database.Message.{Message}
use Rattle.bench_model.specs.declared.database.Database.{Database}
use Rattle.bench_model.specs.declared.database.Bus.{Bus}
use Rattle.bench_model.specs.declared.database.Bench.{Bench}
use Rattle.exact_scale.specs.declared.printing.Exact.{Exact}
use Rattle.bench_model.specs.declared.reading.Ask.{Ask}
use Rattle.bench_model.specs.declared.reading.Ask.TheVariants as ask
use Rattle.bench_model.specs.declared.reading.SignalValue.{SignalValue}
use Rattle.bench_model.specs.declared.reading.Plain.{Plain}
use Rattle.bench_model.specs.Raw.{raw_value}
use Rattle.bench_model.specs.Value.{scaled_value, whole}

-- equal booleans
abbrev pub same_bool : Bool → Bool → Bool
same_bool true b = b
same_bool false true = false
same_bool false false = true

-- the parameter group number of a 29-bit identifier (SAE J1939-21): its bits 8 to 25, the low byte 0
-- where the PDU format, bits 16 to 23, is below 240
abbrev pub group_of : ℕ → ℕ
group_of id =
    if nat_lt (id / 2 ^ 16 % 2 ^ 8) 240 then id / 2 ^ 16 % 2 ^ 10 * 2 ^ 8 else id / 2 ^ 8 % 2 ^ 18

-- whether it is the message of this identifier
abbrev pub has_key : Key → Message → Bool
has_key key m = same_bool m.key.extended key.extended && (m.key.id == key.id)

-- whether it is an extended message of this parameter group
abbrev pub is_in_group : ℕ → Message → Bool
is_in_group pgn m = m.key.extended && (group_of m.key.id == pgn)

-- the first choice, or the second where there is none
abbrev pub or_else : {A : Type 0} → Option A → Option A → Option A
or_else (Some x) second = Some x
or_else None second = second

-- the message of a frame on a J1939 bus: an extended frame finds one by its parameter group, too
abbrev pub group_match : Bool → ℕ → List Message → Option Message
group_match true id ms = find (is_in_group (group_of id)) ms
group_match false id ms = None

-- the message that is asked for, the first in file order
abbrev pub matching : Kind → Ask → List Message → Option Message
matching kind.J1939 (ask.Frame key) ms = or_else (find (has_key key) ms) (group_match key.extended key.id ms)
matching kind.J1939 (ask.Group pgn) ms = find (is_in_group pgn) ms
matching k (ask.Frame key) ms = find (has_key key) ms
matching k (ask.Group pgn) ms = None

-- what a coding makes of a raw value: the physical value, its unit, and a label where there is one
pub record Physical : Type 0 where
  pub value : Exact
  pub unit : List ℕ
  pub label : Option (List ℕ)

-- whether a label stands for this raw value
abbrev pub is_label_of : ℤ → Label → Bool
is_label_of raw label = int_eq label.raw raw

-- whether a raw value lies between two numbers, both included; one below 0 never does
abbrev pub is_between : ℕ → ℕ → ℤ → Bool
is_between low high (pos n) = nat_le low n && nat_le n high
is_between low high (negsuc n) = false

-- whether an entry covers this raw value
abbrev pub covers : ℤ → Entry → Bool
covers raw (entry.Logical value text) = is_between value value raw
covers raw (entry.Physical low high scale unit) = is_between low high raw
covers raw entry.Plain = true

-- what an entry makes of a raw value; where no entry covers it, the raw value stands for itself
abbrev pub entry_meaning : ℤ → Option Entry → Physical
entry_meaning raw (Some (entry.Logical value text)) = record { value = whole raw; unit = []; label = text }
entry_meaning raw (Some (entry.Physical low high scale unit)) = record { value = scaled_value scale raw; unit = unit; label = None }
entry_meaning raw (Some entry.Plain) = record { value = whole raw; unit = []; label = None }
entry_meaning raw None = record { value = whole raw; unit = []; label = None }

-- what a coding makes of a raw value: a scaling and the first label of the value, or the first entry that covers it
abbrev pub coding_meaning : Coding → ℤ → Physical
coding_meaning (Scaled scale unit labels) raw =
    record { value = scaled_value scale raw; unit = unit; label = option_map (λ l. l.text) (find (is_label_of raw) labels) }
coding_meaning (Listed entries) raw = entry_meaning raw (find (covers raw) entries)

-- the value of a signal whose raw value this is
abbrev pub physical : Signal → ℤ → SignalValue
physical s raw = let p = coding_meaning s.coding raw in
    record { name = s.name; raw = raw; value = p.value; unit = p.unit; label = p.label }

-- a signal's value in these bytes, absent where its raw value is
abbrev pub signal_value : List ℕ → Signal → Option SignalValue
signal_value bytes s = option_map (physical s) (raw_value s bytes)

-- the raw values of a message's signals, by their places
abbrev pub raw_values : List ℕ → List Signal → List (Option ℤ)
raw_values bytes signals = map (λ s. raw_value s bytes) signals

-- the value of the signal at this place where it is active under these raw values (a law of multiplex_tree,
-- `activity_by_parents`, says that the test is the relation of activity)
abbrev pub active_value : List ℕ → List (Option Parent) → List (Option ℤ) → ℕ × Signal → Option SignalValue
active_value bytes parents raws x = if is_active parents raws x.0 then signal_value bytes x.1 else None

-- the values of the signals that are active and present, in file order
unfoldable pub active_values : List ℕ → Message → List SignalValue
active_values bytes m =
    filter_map (active_value bytes m.tree.parents (raw_values bytes m.signals)) (enumerate_from 0 m.signals)

-- what the bytes mean as this message
abbrev pub message_meaning : List ℕ → Message → Plain
message_meaning bytes m = record { name = m.name; signals = active_values bytes m }

-- what bytes mean on a bus of this kind under a database, where a message matches
abbrev pub meaning : Kind → Database → Ask → List ℕ → Option Plain
meaning k database asked bytes = option_map (message_meaning bytes) (matching k asked database.messages)

-- what bytes mean on a bus that is there
abbrev pub bus_meaning : Ask → List ℕ → Option Bus → Option Plain
bus_meaning asked bytes (Some bus) = meaning bus.kind bus.database asked bytes
bus_meaning asked bytes None = None

-- what bytes mean on the bus at this place of the bench
abbrev pub bench_meaning : Bench → ℕ → Ask → List ℕ → Option Plain
bench_meaning bench place asked bytes = bus_meaning asked bytes (slice_get bench.buses place)
