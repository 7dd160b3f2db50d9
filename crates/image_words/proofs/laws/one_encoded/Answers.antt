use Rattle.image_words.proofs.UniqueLaws as law
use Rattle.image_words.proofs.laws.one_encoded.Goals as goal

pub returns : goal.returns
returns c = law.one_encoded
