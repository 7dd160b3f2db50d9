use Rattle.bench_model.proofs.IntelWeightLaws as law
use Rattle.bench_model.proofs.laws.intel_weights.Goals as goal

pub returns-clause-places : goal.returns-clause-places
returns-clause-places c = law.intel_places

pub returns-clause-weights : goal.returns-clause-weights
returns-clause-weights c = law.intel_weights
