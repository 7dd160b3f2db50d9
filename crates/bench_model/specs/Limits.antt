-- The limits of a database, each with its name, and what each scaling, label and tree of a message keeps. They are this
-- project's own, but for the length of a message.
use Rattle.std.specs.Prelude.{ℕ, All, length}
use Rattle.exact_scale.specs.Limits.{IsScale, IsRawValue}
use Rattle.multiplex_tree.specs.Trees.{IsTreeOver}
use Rattle.bench_model.specs.declared.database.Label.{Label}
use Rattle.bench_model.specs.declared.database.Entry.{Entry}
use Rattle.bench_model.specs.declared.database.Entry.TheVariants as entry
use Rattle.bench_model.specs.declared.database.Coding.{Coding}
use Rattle.bench_model.specs.declared.database.Coding.TheVariants.{Scaled, Listed}
use Rattle.bench_model.specs.declared.database.Signal.{Signal}
use Rattle.bench_model.specs.declared.database.Message.{Message}
use Rattle.bench_model.specs.declared.database.Database.{Database}

-- messages of a database, signals of a message, and value texts, entries or ranges of a signal
abbrev pub most_messages : ℕ
most_messages = 65536

abbrev pub most_signals : ℕ
most_signals = 1024

abbrev pub most_choices : ℕ
most_choices = 65536

-- bytes of a name, and of a unit or a value text
abbrev pub longest_name : ℕ
longest_name = 128

abbrev pub longest_text : ℕ
longest_text = 1024

-- bytes of a message: 255 packets of 7 bytes (SAE J1939-21)
abbrev pub longest_message : ℕ
longest_message = 1785

-- bits of a signal, and the last bit of a message, at which one may start
abbrev pub most_bits : ℕ
most_bits = 64

abbrev pub last_start : ℕ
last_start = 14279

-- a label whose number is one that raw values may have
abbrev pub IsLabel : Label → Type 0
IsLabel label = IsRawValue label.raw

abbrev pub IsEntry : Entry → Type 0
IsEntry (entry.Physical low high scale unit) = IsScale scale
IsEntry (entry.Logical raw text) = Unit {0}
IsEntry entry.Plain = Unit {0}

-- each scaling and each label of the coding is within its limits
abbrev pub IsCoding : Coding → Type 0
IsCoding (Scaled scale unit labels) = IsScale scale × All IsLabel labels
IsCoding (Listed entries) = All IsEntry entries

-- a message as readers make it: its tree comes from `resolve` (a law of multiplex_tree, `trees_of_marks`, says which trees
-- do), its scales from `Scale::new`, and its labels have numbers that raw values may have
pub record IsMade (m : Message) : Type 0 where
  pub tree : IsTreeOver (length m.signals) m.tree.parents
  pub codings : All (λ (s : Signal). IsCoding s.coding) m.signals

-- a database as the readers make it, before `check` judges it
abbrev pub IsMadeDatabase : Database → Type 0
IsMadeDatabase d = All IsMade d.messages
