use Rattle.std.proofs.Common.{◌≤◌, ◌+◌, ◌-◌}
use Rattle.std.specs.Prelude.{slice_range}
use Rattle.image_words.specs.Found.{IsBetween}
use Rattle.image_words.specs.Knowledge.{Holds}
use Rattle.image_words.specs.Reading.{Learned}
use Rattle.image_words.proofs.index.lower_bound.Given as goal

-- in each list that fits, the words below low are less than the target, and those from high on are not
abbrev pub invariant-loop-low : goal.invariant-loop-low
invariant-loop-low g l = record {
  order : l.low ≤ l.high;
  within : l.high ≤ l.count;
  learned : Learned g.W.Words.knows g.W.Words.reads l.fn.words l.words;
  between : Holds (g.W.Words.knows l.words) (λ image bench. IsBetween (slice_range image l.base (l.base + l.count)) l.target l.low l.high);
}

abbrev pub decreases-loop-low : goal.decreases-loop-low
decreases-loop-low g l = l.high - l.low
