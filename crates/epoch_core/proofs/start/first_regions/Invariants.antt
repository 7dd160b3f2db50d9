use Rattle.std.proofs.Common.{◌≡◌, ◌-◌, [], ◌∷◌, replicate}
use Rattle.epoch_core.proofs.start.first_regions.Given as goal

abbrev pub invariant-loop : goal.invariant-loop
invariant-loop l = l.regions ≡ l.image ∷ replicate (l.counter - 1) []
