use Rattle.bench_mill.proofs.BenchLaws.{valid_bench}
use Rattle.bench_mill.proofs.image.the_bench_is_valid.Goals as goal

pub returns : goal.returns
returns c = valid_bench c.the_generated_text_is_whole.ensures.valid
