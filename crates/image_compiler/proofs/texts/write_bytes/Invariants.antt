use Rattle.std.proofs.Common.{◌≡◌, ◌-◌, ◌*◌, ◌++◌, drop, length}
use Rattle.image_words.specs.Layout.{words_for, padded}
use Rattle.image_compiler.specs.Layout.{blocks, text_words}
use Rattle.image_compiler.proofs.texts.write_bytes.Given as goal

abbrev pub invariant-loop-i : goal.invariant-loop-i
invariant-loop-i l =
    l.out.items ++ blocks (words_for (length l.bytes) - l.i) (drop (8 * l.i) (padded l.bytes)) ≡ l.fn.out.items ++ text_words l.bytes
