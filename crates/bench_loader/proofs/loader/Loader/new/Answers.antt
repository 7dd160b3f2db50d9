use Rattle.std.proofs.Common.{rules}
use Rattle.bench_loader.proofs.PutLaws.{loader_first}
use Rattle.bench_loader.proofs.loader.Loader.new.Goals as goal

pub returns-clause-first : goal.returns-clause-first
returns-clause-first c = λ s image. loader_first s _ c.args.bench c.args.seat c.args.room image (search rules)
