use Rattle.std.proofs.Common.{length, arith}
use Rattle.std.proofs.lemmas.Bool.Decides.{leb_tells}
use Rattle.std.proofs.Common.{inl, inr}
use Rattle.multiplex_tree.proofs.ChainLaws.{none_past}
use Rattle.multiplex_tree.proofs.chain.first_deep.Goals as goal

pub returns : goal.returns
returns c = λ i. elim (leb_tells (length c.args.parents.now) i) [
  | inl past ↦ none_past c.args.parents.now 9 i (omega arith) past.1
  | inr within ↦ c.loop-signal.invariant i (omega (arith, within.1))
]
