use Rattle.std.proofs.Common.{◌≡◌, ◌++◌}
use Rattle.image_words.specs.Layout.{bytes_from}
use Rattle.image_words.specs.Knowledge.{Holds}
use Rattle.image_words.specs.Reading.{Learned}
use Rattle.image_words.proofs.texts.append_text.Given as goal

-- each list that fits has the bytes read so far from the text's place on
abbrev pub invariant-loop-i : goal.invariant-loop-i
invariant-loop-i g l = record {
  learned : Learned g.W.Words.knows g.W.Words.reads l.fn.words l.words;
  bytes : Holds (g.W.Words.knows l.words) (λ image bench. l.buffer.items ≡ l.fn.buffer.items ++ bytes_from image l.place l.i);
}
