use Rattle.std.proofs.Common.{◌∙◌, sym}
use Rattle.image_words.proofs.laws.known_words_decide.Goals as goal

pub returns-clause-plain : goal.returns-clause-plain
returns-clause-plain c k answer bus ask bytes a b x y holds f h = sym (holds a x f) ∙ holds b y h

pub returns-clause-raw : goal.returns-clause-raw
returns-clause-raw c k answer row bytes a b x y s t holds f h own other = sym (holds a x f s own) ∙ holds b y h t other
