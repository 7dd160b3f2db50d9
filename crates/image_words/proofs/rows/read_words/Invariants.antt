use Rattle.std.proofs.Common.{◌≡◌, ℕ, ◌+◌, ◌<◌}
use Rattle.std.specs.Prelude.{slice_index}
use Rattle.image_words.specs.Layout.{word}
use Rattle.image_words.specs.Knowledge.{Holds}
use Rattle.image_words.specs.Reading.{Learned}
use Rattle.image_words.proofs.rows.read_words.Given as goal

-- the words so far are those of each list that fits
abbrev pub invariant-loop-i : goal.invariant-loop-i
invariant-loop-i g l = record {
  learned : Learned g.W.Words.knows g.W.Words.reads l.fn.words l.words;
  words_so_far : Holds (g.W.Words.knows l.words) (λ image bench. (k : ℕ) → k < l.i → word image (l.at + k) ≡ slice_index l.row k);
}
