use Rattle.std.proofs.Common.{◌≡◌}
use Rattle.multiplex_tree.specs.Chain.{ancestor}
use Rattle.multiplex_tree.proofs.chain.nth_above.Given as goal

abbrev pub invariant-loop : goal.invariant-loop
invariant-loop l = l.place ≡ ancestor l.parents l.counter l.signal
