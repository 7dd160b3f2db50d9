use Rattle.bench_inputs.proofs.FileLaws.{one_list}
use Rattle.bench_inputs.proofs.laws.one_reading_of_databases.Goals as goal

pub returns : goal.returns
returns c = one_list
