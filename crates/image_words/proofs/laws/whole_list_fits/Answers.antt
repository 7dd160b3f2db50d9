use Rattle.image_words.proofs.WholeLaws as law
use Rattle.image_words.proofs.laws.whole_list_fits.Goals as goal

pub returns-clause-fits : goal.returns-clause-fits
returns-clause-fits c = law.whole_fits

pub returns-clause-some : goal.returns-clause-some
returns-clause-some c = law.some_whole

pub returns-clause-only : goal.returns-clause-only
returns-clause-only c = law.only_whole
