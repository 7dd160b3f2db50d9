use Rattle.std.proofs.Common.{◌≡◌}
use Rattle.std.specs.List.{flat_map, range_with_len}
use Rattle.mill_database.specs.GeneratedText.{message_text}
use Rattle.mill_database.proofs.text.generated_text.Given as goal

abbrev pub invariant-loop-j : goal.invariant-loop-j
invariant-loop-j l = l.text.items ≡ flat_map message_text (range_with_len 0 l.j)
