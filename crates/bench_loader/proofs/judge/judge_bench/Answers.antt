use Rattle.std.specs.Prelude.{zip}
use Rattle.bench_loader.proofs.BenchLaws.{bench_answered, refusal_answered}
use Rattle.bench_loader.proofs.judge.judge_bench.Goals as goal

pub returns-clause-every_bench : goal.returns-clause-every_bench
returns-clause-every_bench c =
    bench_answered c.one_judgement.ensures (zip c.args.buses.now c.args.files.now) c.judge_buses-judged.result c.judge_buses-judged.ensures

pub returns-clause-every_refusal : goal.returns-clause-every_refusal
returns-clause-every_refusal c =
    refusal_answered c.one_judgement.ensures (zip c.args.buses.now c.args.files.now) c.judge_buses-judged.result c.judge_buses-judged.ensures
