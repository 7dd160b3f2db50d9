use Rattle.std.proofs.Common.{take}
use Rattle.std.specs.List.{AllZip}
use Rattle.bench_loader.specs.Targets.{IsTarget}
use Rattle.bench_loader.proofs.targets.find_targets.Given as goal

-- the buses of the pairs so far were found
abbrev pub invariant-loop-place : goal.invariant-loop-place
invariant-loop-place l = AllZip (IsTarget l.buses) (take l.place l.pairs) l.targets.items
