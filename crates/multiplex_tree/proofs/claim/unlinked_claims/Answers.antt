use Rattle.std.proofs.Common.{arith}
use Rattle.multiplex_tree.proofs.ClaimLaws.{unlinked_claims-append}
use Rattle.multiplex_tree.proofs.claim.unlinked_claims.Goals as goal

pub loop-preserved : goal.loop-preserved
loop-preserved c = record {
  number = omega (arith, c.in_ok-push.ensures.len);
  each = λ i. rw c.in_ok-push.ensures.items (unlinked_claims-append _ c.loop.invariant.each i);
}
