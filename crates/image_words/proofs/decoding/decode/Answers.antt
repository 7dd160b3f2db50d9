use Rattle.image_words.proofs.RunLaws.{nothing_given, collected_is}
use Rattle.image_words.proofs.decoding.decode.Goals as goal

pub returns-then-not-matched-clause-plain : goal.returns-then-not-matched-clause-plain
returns-then-not-matched-clause-plain g c image bench f =
    nothing_given _ _ _ _ _ c.in_ok-matched.matched (c.in_ok-matched.ensures.given image bench f) c.if-not-matched.true

pub returns-clause-plain : goal.returns-clause-plain
returns-clause-plain g c image bench f =
    collected_is _ _ _ _ c.in_ok-matched.matched c.in_ok-collected.ensures c.of.ensures (c.in_ok-matched.ensures.given image bench f) c.if-not-matched.false
