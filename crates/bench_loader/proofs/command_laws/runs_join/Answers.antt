use Rattle.bench_loader.proofs.RunLaws.{runs_join, runs_one}
use Rattle.bench_loader.proofs.command_laws.runs_join.Goals as goal

pub returns-clause-join : goal.returns-clause-join
returns-clause-join c = runs_join

pub returns-clause-one_more : goal.returns-clause-one_more
returns-clause-one_more c = runs_one
