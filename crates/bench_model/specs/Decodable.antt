-- What the plain decoder asks of a message; each message of a valid database has it.
use Rattle.std.specs.Prelude.{◌≤◌, All, length}
use Rattle.multiplex_tree.specs.Trees.{IsTreeOver}
use Rattle.bench_model.specs.declared.database.Signal.{Signal}
use Rattle.bench_model.specs.declared.database.Message.{Message}
use Rattle.bench_model.specs.Limits.{most_bits, last_start, IsCoding}

-- a signal of 1 to 64 bits that starts in a message of at most 1,785 bytes
pub record IsDecodableSignal (s : Signal) : Type 0 where
  pub some_bits : 1 ≤ s.size
  pub size : s.size ≤ most_bits
  pub start : s.start ≤ last_start
  pub coding : IsCoding s.coding

-- such signals, each with its place in a tree of at most 8 parents above each
pub record IsDecodable (m : Message) : Type 0 where
  pub tree : IsTreeOver (length m.signals) m.tree.parents
  pub signals : All IsDecodableSignal m.signals
