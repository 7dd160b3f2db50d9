-- The five rules of `check`, which are this project's own: the faults that a database has, each with the message and the signal named.
use Rattle.std.specs.Prelude.{◌≡◌, ℕ, ◌&&◌, ◌||◌, not, Bool, true, false, List, [], ◌∷◌, ◌++◌, length, take, Option, Some, None, nat_le, nat_lt, if◌then◌else◌}
use Rattle.std.specs.List.{list_any, list_all, flat_map, enumerate_from, slice_get}
use Rattle.std.specs.Str.{bytes_eq}
use Rattle.multiplex_tree.specs.declared.mark.Parent.{Parent}
use Rattle.multiplex_tree.specs.Activity.{parent_at}
use Rattle.bench_model.specs.declared.fault.CheckWhy.{CheckWhy}
use Rattle.bench_model.specs.declared.fault.CheckWhy.TheVariants.{Size, DuplicateMessage, DuplicateSignal, Float, Limit}
use Rattle.bench_model.specs.declared.fault.CheckFault.{CheckFault}
use Rattle.bench_model.specs.declared.fault.CheckFault.TheVariants.{At}
use Rattle.bench_model.specs.declared.database.Label.{Label}
use Rattle.bench_model.specs.declared.database.Entry.{Entry}
use Rattle.bench_model.specs.declared.database.Entry.TheVariants as entry
use Rattle.bench_model.specs.declared.database.Coding.{Coding}
use Rattle.bench_model.specs.declared.database.Coding.TheVariants.{Scaled, Listed}
use Rattle.bench_model.specs.declared.database.Signal.{Signal}
use Rattle.bench_model.specs.declared.database.Message.{Message}
use Rattle.bench_model.specs.declared.database.Database.{Database}
use Rattle.bench_model.specs.Meaning.{has_key}
use Rattle.bench_model.specs.Limits.{most_messages, most_signals, most_choices, longest_name, longest_text, longest_message, most_bits, last_start, IsMadeDatabase}

-- a name has 1 to 128 bytes, a unit and a value text at most 1,024
abbrev pub is_name : List ℕ → Bool
is_name text = nat_le 1 (length text) && nat_le (length text) longest_name

abbrev pub is_text : List ℕ → Bool
is_text text = nat_le (length text) longest_text

-- a text that may be missing
abbrev pub is_text_or_none : Option (List ℕ) → Bool
is_text_or_none None = true
is_text_or_none (Some text) = is_text text

abbrev pub has_short_text : Entry → Bool
has_short_text (entry.Logical raw text) = is_text_or_none text
has_short_text (entry.Physical low high scale unit) = is_text unit
has_short_text entry.Plain = true

-- at most 65,536 value texts or entries, with units and texts of at most 1,024 bytes
abbrev pub is_small : Coding → Bool
is_small (Scaled scale unit labels) =
    is_text unit && nat_le (length labels) most_choices && list_all (λ (l : Label). is_text l.text) labels
is_small (Listed entries) = nat_le (length entries) most_choices && list_all has_short_text entries

-- at most 65,536 ranges of a parent that may be missing
abbrev pub has_few_ranges : Option Parent → Bool
has_few_ranges None = true
has_few_ranges (Some p) = nat_le (length p.ranges) most_choices

-- whether it is a signal of this name
abbrev pub has_name : List ℕ → Signal → Bool
has_name name s = bytes_eq s.name name

-- whether the message at place i, apart from its signals, breaks the rule
abbrev pub message_breaks : CheckWhy → List Message → ℕ → Message → Bool
message_breaks Size ms i m = nat_lt longest_message m.length
message_breaks DuplicateMessage ms i m = list_any (has_key m.key) (take i ms)
message_breaks DuplicateSignal ms i m = false
message_breaks Float ms i m = false
message_breaks Limit ms i m = not (is_name m.name) || nat_lt most_signals (length m.signals)

-- whether the message's signal at place j breaks the rule
abbrev pub signal_breaks : CheckWhy → Message → ℕ → Signal → Bool
signal_breaks Size m j s = not (nat_le 1 s.size && nat_le s.size most_bits && nat_le s.start last_start)
signal_breaks DuplicateMessage m j s = false
signal_breaks DuplicateSignal m j s = list_any (has_name s.name) (take j m.signals)
signal_breaks Float m j s = s.float
signal_breaks Limit m j s =
    not (is_name s.name && is_small s.coding && has_few_ranges (parent_at m.tree.parents j))

-- the fault of the message itself, and of its signal at place j, where it breaks the rule
abbrev pub own_faults : CheckWhy → List Message → ℕ → Message → List CheckFault
own_faults why ms i m = if message_breaks why ms i m then At why (Some m.key) None ∷ [] else []

abbrev pub signal_faults : CheckWhy → Message → ℕ × Signal → List CheckFault
signal_faults why m x = if signal_breaks why m x.0 x.1 then At why (Some m.key) (Some x.1.name) ∷ [] else []

-- the faults of the message at place i: its own before those of its signals, which follow in file order
unfoldable pub message_faults : CheckWhy → List Message → ℕ × Message → List CheckFault
message_faults why ms x =
    own_faults why ms x.0 x.1 ++ flat_map (signal_faults why x.1) (enumerate_from 0 x.1.signals)

-- too many messages are a fault of the whole database
abbrev pub database_faults : CheckWhy → List Message → List CheckFault
database_faults Limit ms = if nat_lt most_messages (length ms) then At Limit None None ∷ [] else []
database_faults Size ms = []
database_faults DuplicateMessage ms = []
database_faults DuplicateSignal ms = []
database_faults Float ms = []

-- all faults by one rule, in file order
unfoldable pub faults_by : List Message → CheckWhy → List CheckFault
faults_by ms why = database_faults why ms ++ flat_map (message_faults why ms) (enumerate_from 0 ms)

-- all faults, rule after rule
abbrev pub all_faults : List Message → List CheckFault
all_faults ms = flat_map (faults_by ms) (Size ∷ DuplicateMessage ∷ DuplicateSignal ∷ Float ∷ Limit ∷ [])

-- the fault that `check` names: the first
abbrev pub IsFirstFault : Database → CheckFault → Type 0
IsFirstFault d fault = slice_get (all_faults d.messages) 0 ≡ Some fault

-- a valid database: made as readers make it, and no rule finds a fault
pub record IsValid (d : Database) : Type 0 where
  pub made : IsMadeDatabase d
  pub faultless : length (all_faults d.messages) ≡ 0
