-- What the types of a bench's parts say: texts are lists of bytes, and identifiers have 32 bits.
use Rattle.std.specs.Prelude.{ℕ, ◌<◌, All, List, Option, Some, None}
use Rattle.bench_model.specs.declared.database.Label.{Label}
use Rattle.bench_model.specs.declared.database.Entry.{Entry}
use Rattle.bench_model.specs.declared.database.Entry.TheVariants.{Logical, Physical, Plain}
use Rattle.bench_model.specs.declared.database.Coding.{Coding}
use Rattle.bench_model.specs.declared.database.Coding.TheVariants.{Scaled, Listed}
use Rattle.bench_model.specs.declared.database.Signal.{Signal}
use Rattle.bench_model.specs.declared.database.Message.{Message}
use Rattle.bench_model.specs.declared.database.Bus.{Bus}
use Rattle.bench_model.specs.Shifts.{AreBytes}
use Rattle.image_words.specs.Index.{extended_from}

abbrev pub AreBytesIfThere : Option (List ℕ) → Type 0
AreBytesIfThere None = Unit {0}
AreBytesIfThere (Some text) = AreBytes text

abbrev pub IsTypedLabel : Label → Type 0
IsTypedLabel l = AreBytes l.text

abbrev pub IsTypedEntry : Entry → Type 0
IsTypedEntry (Logical raw text) = AreBytesIfThere text
IsTypedEntry (Physical low high scale unit) = AreBytes unit
IsTypedEntry Plain = Unit {0}

abbrev pub IsTypedCoding : Coding → Type 0
IsTypedCoding (Scaled scale unit labels) = AreBytes unit × All IsTypedLabel labels
IsTypedCoding (Listed entries) = All IsTypedEntry entries

pub record IsTypedSignal (s : Signal) : Type 0 where
  pub name : AreBytes s.name
  pub coding : IsTypedCoding s.coding

pub record IsTypedMessage (m : Message) : Type 0 where
  pub id : m.key.id < extended_from
  pub name : AreBytes m.name
  pub signals : All IsTypedSignal m.signals

pub record IsTypedBus (bus : Bus) : Type 0 where
  pub name : AreBytes bus.name
  pub messages : All IsTypedMessage bus.database.messages
