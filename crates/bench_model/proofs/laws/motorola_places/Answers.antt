use Rattle.bench_model.proofs.MotorolaPlaceLaws as law
use Rattle.bench_model.proofs.laws.motorola_places.Goals as goal

pub returns : goal.returns
returns c = law.motorola_places
