use Rattle.std.proofs.Common.{◌≡◌, ℤ, drop, find}
use Rattle.bench_model.specs.Meaning.{covers}
use Rattle.image_words.specs.Reading.{Learned, EachIs, EntriesAt}
use Rattle.image_words.proofs.coding.listed_value.Given as goal

-- the first entry that covers the raw value is among those that are left
abbrev pub invariant-loop-i : goal.invariant-loop-i
invariant-loop-i g l = record {
  learned : Learned g.W.Words.knows g.W.Words.reads l.fn.words l.words;
  rest : (raw : ℤ) → raw ≡ l.raw →
      EachIs (g.W.Words.knows l.words) (EntriesAt l.at l.count) (λ image entries. find (covers raw) entries ≡ find (covers raw) (drop l.i entries));
}
