use Rattle.bench_loader.proofs.RunLaws.{all_published}
use Rattle.bench_loader.proofs.command_laws.images_are_published.Goals as goal

pub returns : goal.returns
returns c = all_published
