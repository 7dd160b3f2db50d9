use Rattle.bench_loader.proofs.KeptLaws.{keeps_over, same_names}
use Rattle.bench_loader.proofs.command_laws.runs_keep_the_library.Goals as goal

pub returns-clause-library : goal.returns-clause-library
returns-clause-library c = keeps_over

pub returns-clause-buses : goal.returns-clause-buses
returns-clause-buses c = same_names
