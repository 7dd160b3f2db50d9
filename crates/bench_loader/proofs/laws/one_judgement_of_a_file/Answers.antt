use Rattle.bench_loader.proofs.FileLaws.{decides_file}
use Rattle.bench_loader.proofs.laws.one_judgement_of_a_file.Goals as goal

pub returns : goal.returns
returns c = decides_file c.one_database_or_one_fault.ensures c.one_description_or_one_fault.ensures
