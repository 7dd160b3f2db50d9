use Rattle.std.proofs.Common.{◌≡◌, ℕ, slice_index_or, vec_len, take}
use Rattle.multiplex_tree.specs.declared.claim.Claim.TheVariants.{Unlinked}
use Rattle.multiplex_tree.specs.Claims.{claim_of}
use Rattle.multiplex_tree.specs.Parents.{links_to}
use Rattle.multiplex_tree.proofs.claim.claims_of.Given as goal

-- The claims are those of the links so far.
abbrev pub invariant-loop-link : goal.invariant-loop-link
invariant-loop-link l = record {
  number : vec_len l.claims ≡ l.count;
  each : (i : ℕ) → slice_index_or l.claims.items i Unlinked ≡ claim_of (links_to i (take l.link-index l.links));
}
