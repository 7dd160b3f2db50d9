use Rattle.image_words.proofs.RunLaws.{gives_nothing, gives_one}
use Rattle.image_words.proofs.walking.give.Goals as goal

pub returns-then-not-there : goal.returns-then-not-there
returns-then-not-there g c = gives_nothing _ _ c.args.there _ c.if-not-there.true

pub returns : goal.returns
returns g c = gives_one _ _ _ c.args.there _ c.if-not-there.false c.in_ok-signal.ensures
