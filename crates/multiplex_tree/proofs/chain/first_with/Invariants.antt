use Rattle.std.proofs.Common.{ℕ, ◌<◌}
use Rattle.std.specs.Option.{IsNone}
use Rattle.multiplex_tree.specs.Chain.{parent_in}
use Rattle.multiplex_tree.proofs.chain.first_with.Given as goal

abbrev pub invariant-loop-signal : goal.invariant-loop-signal
invariant-loop-signal l = (i : ℕ) → i < l.signal → IsNone (parent_in l.far i)
