use Rattle.bench_model.proofs.NameLaws as law
use Rattle.bench_model.proofs.names.names_in_a_meaning.Goals as goal

pub returns : goal.returns
returns c = law.names_in_a_meaning
