-- The database of the DBC file that is made for `mill`.
use Rattle.std.specs.Prelude.{ℕ, Bool, true, false, ℤ, pos, negsuc, List, [], ◌∷◌, map, replicate, None, codes}
use Rattle.std.specs.List.{range_with_len}
use Rattle.exact_scale.specs.declared.scaling.Scale.{Scale}
use Rattle.multiplex_tree.specs.declared.tree.Tree.{Tree}
use Rattle.bench_model.specs.declared.database.Coding.TheVariants.{Scaled}
use Rattle.bench_model.specs.declared.database.Order.{Order}
use Rattle.bench_model.specs.declared.database.Order.TheVariants.{Intel, Motorola}
use Rattle.bench_model.specs.declared.database.Signal.{Signal}
use Rattle.bench_model.specs.declared.database.Message.{Message}
use Rattle.bench_model.specs.declared.database.Database.{Database}
use Rattle.mill_database.specs.GeneratedText.{message_count, id_of, message_name}

-- a signal of 16 bits, without a unit
abbrev pub signal : List ℕ → ℕ → Order → Bool → Scale → Signal
signal name start order signed scale = record {
  name = name;
  start = start;
  size = 16;
  order = order;
  signed = signed;
  float = false;
  coding = Scaled scale [] [];
}

-- factor and offset over a power of ten
abbrev pub scale : ℤ → ℤ → ℕ → Scale
scale factor offset k = record { factor = factor; offset = offset; k = k }

abbrev pub generated_signals : List Signal
generated_signals =
    signal (codes "S0") 0 Intel false (scale (pos 5) (pos 0) 1)
    ∷ signal (codes "S1") 16 Intel true (scale (pos 1) (negsuc 39) 0)
    ∷ signal (codes "S2") 39 Motorola false (scale (pos 25) (pos 0) 2)
    ∷ signal (codes "S3") 55 Motorola true (scale (pos 1) (pos 0) 0) ∷ []

abbrev pub generated_message : ℕ → Message
generated_message j = record {
  name = message_name j;
  key = record { extended = false; id = id_of j };
  length = 8;
  signals = generated_signals;
  tree = record { parents = replicate 4 None };
}

unfoldable pub generated_database : Database
generated_database = record { messages = map generated_message (range_with_len 0 message_count) }
