use Rattle.std.proofs.Common.{◌<◌, ◌+◌, ◌*◌}
use Rattle.image_words.specs.Knowledge.{Holds}
use Rattle.image_words.specs.Reading.{Learned, EachIs, SignalsAt, IsLevel}
use Rattle.image_words.proofs.ActiveLaws.{IsOnWay}
use Rattle.image_words.proofs.activity.is_active.Given as goal

-- as many parents above the signal select what is below them
abbrev pub invariant-loop-steps : goal.invariant-loop-steps
invariant-loop-steps g l = record {
  learned : Learned g.W.Words.knows g.W.Words.reads l.fn.words l.words;
  within : l.here < l.count;
  level_known : Holds (g.W.Words.knows l.words) (λ image bench. IsLevel image (l.at + 12 * l.here) l.level);
  way : EachIs (g.W.Words.knows l.words) (SignalsAt l.at l.count) (λ image m. IsOnWay l.bytes m l.place l.steps l.here);
}
