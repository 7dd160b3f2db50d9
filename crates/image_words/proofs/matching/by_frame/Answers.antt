use Rattle.image_words.proofs.WordLaws.{learned_then, earlier}
use Rattle.image_words.proofs.MatchLaws.{frame_by_key}
use Rattle.image_words.proofs.matching.by_frame.Goals as goal

pub returns-in-Some-clause-position : goal.returns-in-Some-clause-position
returns-in-Some-clause-position g c image bench f bus has =
    frame_by_key bus.kind bus.database.messages c.args.key _ (c.in-Some.ensures.position image bench f bus has)

pub by_frame_group-requires-clause-some : goal.by_frame_group-requires-clause-some
by_frame_group-requires-clause-some g c = c.in-None.ensures.learned.narrows.some c.requires.some

pub by_frame_group-requires-clause-bus : goal.by_frame_group-requires-clause-bus
by_frame_group-requires-clause-bus g c image bench f =
    c.requires.bus image bench (earlier _ _ _ _ image bench c.in-None.ensures.learned f)

pub returns-in-None-clause-learned : goal.returns-in-None-clause-learned
returns-in-None-clause-learned g c = learned_then _ _ g.met.W.Words.chain _ _ _ c.in-None.ensures.learned c.by_frame_group.ensures.learned

pub returns-in-None-clause-position : goal.returns-in-None-clause-position
returns-in-None-clause-position g c image bench f bus has =
    c.by_frame_group.ensures.position image bench f bus has
    (c.in-None.ensures.position image bench (earlier _ _ _ _ image bench c.by_frame_group.ensures.learned f) bus has)
