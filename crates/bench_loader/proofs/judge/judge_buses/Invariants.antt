use Rattle.std.specs.Prelude.{zip}
use Rattle.bench_loader.proofs.JudgeLaws.{Judged}
use Rattle.bench_loader.proofs.judge.judge_buses.Given as goal

-- the buses so far were judged
abbrev pub invariant-loop-i : goal.invariant-loop-i
invariant-loop-i l = Judged (zip l.buses l.files) l.i l.judged.items
