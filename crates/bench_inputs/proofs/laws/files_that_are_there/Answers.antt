use Rattle.bench_inputs.proofs.AskingLaws.{no_strays}
use Rattle.bench_inputs.proofs.laws.files_that_are_there.Goals as goal

pub returns : goal.returns
returns c = no_strays
