use Rattle.std.proofs.Common.{take}
use Rattle.std.specs.Prelude.{zip}
use Rattle.std.specs.List.{AllZip}
use Rattle.bench_loader.specs.NextBench.{IsChange}
use Rattle.bench_loader.proofs.load_files.judge_files.Given as goal

-- the changes so far were judged
abbrev pub invariant-loop-i : goal.invariant-loop-i
invariant-loop-i l = AllZip IsChange (take l.i (zip l.targets l.files)) l.changes.items
