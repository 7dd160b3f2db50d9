use Rattle.bench_loader.proofs.BenchLaws.{decides_bus}
use Rattle.bench_loader.proofs.laws.one_judgement.Goals as goal

pub returns : goal.returns
returns c = decides_bus c.one_judgement_of_a_file.ensures
