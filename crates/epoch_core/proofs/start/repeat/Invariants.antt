use Rattle.std.proofs.Common.{◌≡◌, replicate}
use Rattle.epoch_core.proofs.start.repeat.Given as goal

abbrev pub invariant-loop : goal.invariant-loop
invariant-loop g l = l.list ≡ replicate l.counter l.value
