use Rattle.std.proofs.Common.{ℕ, ◌+◌, ◌<◌}
use Rattle.std.specs.Option.{IsNone}
use Rattle.multiplex_tree.specs.Chain.{most_parents, ancestor}
use Rattle.multiplex_tree.proofs.chain.first_deep.Given as goal

abbrev pub invariant-loop-signal : goal.invariant-loop-signal
invariant-loop-signal l = (i : ℕ) → i < l.signal → IsNone (ancestor l.parents (most_parents + 1) i)
