use Rattle.image_words.proofs.WordLaws as law
use Rattle.image_words.proofs.laws.knowledge_narrows.Goals as goal

pub returns-clause-earlier : goal.returns-clause-earlier
returns-clause-earlier c = law.fitted

pub returns-clause-same : goal.returns-clause-same
returns-clause-same c = law.narrows_not

pub returns-clause-chain : goal.returns-clause-chain
returns-clause-chain c = law.narrows_then
