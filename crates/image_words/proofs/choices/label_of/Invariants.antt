use Rattle.std.proofs.Common.{◌≡◌, ℤ, drop, find}
use Rattle.bench_model.specs.Meaning.{is_label_of}
use Rattle.image_words.specs.Reading.{Learned, EachIs, LabelsAt}
use Rattle.image_words.proofs.choices.label_of.Given as goal

-- the first label is among those that are left
abbrev pub invariant-loop-i : goal.invariant-loop-i
invariant-loop-i g l = record {
  learned : Learned g.W.Words.knows g.W.Words.reads l.fn.words l.words;
  rest : (raw : ℤ) → raw ≡ l.raw →
      EachIs (g.W.Words.knows l.words) (LabelsAt l.at l.count) (λ image labels. find (is_label_of raw) labels ≡ find (is_label_of raw) (drop l.i labels));
}
