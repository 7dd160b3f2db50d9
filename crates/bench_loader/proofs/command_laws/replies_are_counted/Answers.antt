use Rattle.bench_loader.proofs.RunLaws.{opens_counted, reads_counted}
use Rattle.bench_loader.proofs.command_laws.replies_are_counted.Goals as goal

pub returns-clause-opens : goal.returns-clause-opens
returns-clause-opens c = opens_counted

pub returns-clause-reads : goal.returns-clause-reads
returns-clause-reads c = reads_counted
