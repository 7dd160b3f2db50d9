-- What a valid database keeps, rule by rule and over whole lists. Where it does not, `check` names a fault.
use Rattle.std.specs.Prelude.{◌≡◌, ◌≢◌, ℕ, ◌<◌, ◌≤◌, All, AllPairs, length, List, Option, Some, None, false}
use Rattle.multiplex_tree.specs.declared.mark.Parent.{Parent}
use Rattle.multiplex_tree.specs.Activity.{parent_at}
use Rattle.bench_model.specs.declared.database.Label.{Label}
use Rattle.bench_model.specs.declared.database.Entry.{Entry}
use Rattle.bench_model.specs.declared.database.Entry.TheVariants as entry
use Rattle.bench_model.specs.declared.database.Coding.{Coding}
use Rattle.bench_model.specs.declared.database.Coding.TheVariants.{Scaled, Listed}
use Rattle.bench_model.specs.declared.database.Signal.{Signal}
use Rattle.bench_model.specs.declared.database.Message.{Message}
use Rattle.bench_model.specs.declared.database.Database.{Database}
use Rattle.bench_model.specs.Limits.{most_messages, most_signals, most_choices, longest_name, longest_text, longest_message, most_bits, last_start}

-- a name of 1 to 128 bytes
pub record IsName (name : List ℕ) : Type 0 where
  pub some_bytes : 1 ≤ length name
  pub bytes : length name ≤ longest_name

-- a unit or a value text of at most 1,024 bytes
abbrev pub IsShortText : List ℕ → Type 0
IsShortText text = length text ≤ longest_text

-- the same of a text that may be missing
abbrev pub IsShortIfThere : Option (List ℕ) → Type 0
IsShortIfThere None = Unit {0}
IsShortIfThere (Some text) = IsShortText text

-- an entry whose text or unit is short
abbrev pub HasShortText : Entry → Type 0
HasShortText (entry.Logical raw text) = IsShortIfThere text
HasShortText (entry.Physical low high scale unit) = IsShortText unit
HasShortText entry.Plain = Unit {0}

-- a coding of at most 65,536 value texts or entries, with short texts and units
abbrev pub IsSmall : Coding → Type 0
IsSmall (Scaled scale unit labels) =
    IsShortText unit × (length labels ≤ most_choices) × All (λ (l : Label). IsShortText l.text) labels
IsSmall (Listed entries) = (length entries ≤ most_choices) × All HasShortText entries

-- a signal of 1 to 64 bits from bit 14,279 or an earlier one on, which is no floating point number, with a name
-- and a small coding
pub record KeepsSignalRules (s : Signal) : Type 0 where
  pub some_bits : 1 ≤ s.size
  pub size : s.size ≤ most_bits
  pub start : s.start ≤ last_start
  pub no_float : s.float ≡ false
  pub name : IsName s.name
  pub coding : IsSmall s.coding

-- a message of at most 1,785 bytes with at most 1,024 such signals of different names, each selected by at most
-- 65,536 ranges
pub record KeepsMessageRules (m : Message) : Type 0 where
  pub bytes : m.length ≤ longest_message
  pub name : IsName m.name
  pub count : length m.signals ≤ most_signals
  pub names : AllPairs (λ (a b : Signal). a.name ≢ b.name) m.signals
  pub signals : All KeepsSignalRules m.signals
  pub ranges : (j : ℕ) (p : Parent) → j < length m.signals → parent_at m.tree.parents j ≡ Some p →
      length p.ranges ≤ most_choices

-- a database of at most 65,536 such messages with different keys
pub record KeepsRules (d : Database) : Type 0 where
  pub count : length d.messages ≤ most_messages
  pub keys : AllPairs (λ (a b : Message). a.key ≢ b.key) d.messages
  pub messages : All KeepsMessageRules d.messages
