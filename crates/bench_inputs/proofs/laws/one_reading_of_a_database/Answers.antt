use Rattle.bench_inputs.proofs.FileLaws.{one_named}
use Rattle.bench_inputs.proofs.laws.one_reading_of_a_database.Goals as goal

pub returns : goal.returns
returns c = one_named
