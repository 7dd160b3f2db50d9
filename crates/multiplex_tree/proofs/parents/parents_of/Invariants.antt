use Rattle.std.proofs.Common.{◌≡◌, ℕ, ◌<◌, ◌≤◌, slice_index_or, length, Ok, None}
use Rattle.multiplex_tree.specs.declared.claim.Claim.TheVariants.{Unlinked}
use Rattle.multiplex_tree.specs.Claims.{claim_of}
use Rattle.multiplex_tree.specs.Parents.{links_to, parent_by_rules}
use Rattle.multiplex_tree.proofs.parents.parents_of.Given as goal

-- The signals so far have these parents, and the claims on the others are still there.
abbrev pub invariant-loop-signal : goal.invariant-loop-signal
invariant-loop-signal l = record {
  claims : length l.claims.items ≡ length l.marks;
  number : length l.parents.items ≡ l.signal;
  left : (i : ℕ) → l.signal ≤ i → slice_index_or l.claims.items i Unlinked ≡ claim_of (links_to i l.fn.links);
  each : (i : ℕ) → i < l.signal → parent_by_rules l.marks l.fn.links i ≡ Ok (slice_index_or l.parents.items i None);
}
