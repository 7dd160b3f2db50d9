use Rattle.std.proofs.Common.{◌≡◌, ℤ, drop}
use Rattle.std.specs.List.{list_any}
use Rattle.multiplex_tree.specs.Activity.{is_in_range}
use Rattle.image_words.specs.Reading.{Learned, EachIs, RangesAt}
use Rattle.image_words.proofs.choices.is_in_ranges.Given as goal

-- the ranges that are left decide
abbrev pub invariant-loop-i : goal.invariant-loop-i
invariant-loop-i g l = record {
  learned : Learned g.W.Words.knows g.W.Words.reads l.fn.words l.words;
  rest : (raw : ℤ) → raw ≡ l.raw →
      EachIs (g.W.Words.knows l.words) (RangesAt l.at l.count) (λ image ranges. list_any (is_in_range raw) ranges ≡ list_any (is_in_range raw) (drop l.i ranges));
}
