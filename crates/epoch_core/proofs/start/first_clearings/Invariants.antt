use Rattle.std.proofs.Common.{◌≡◌, ◌-◌, ◌∷◌, replicate, true, false}
use Rattle.epoch_core.proofs.start.first_clearings.Given as goal

abbrev pub invariant-loop : goal.invariant-loop
invariant-loop l = l.cleared ≡ replicate l.lanes false ∷ replicate (l.counter - 1) (replicate l.lanes true)
