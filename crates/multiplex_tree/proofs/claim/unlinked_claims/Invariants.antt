use Rattle.std.proofs.Common.{◌≡◌, ℕ, slice_index_or, vec_len}
use Rattle.multiplex_tree.specs.declared.claim.Claim.TheVariants.{Unlinked}
use Rattle.multiplex_tree.proofs.claim.unlinked_claims.Given as goal

abbrev pub invariant-loop : goal.invariant-loop
invariant-loop l = record {
  number : vec_len l.claims ≡ l.counter;
  each : (i : ℕ) → slice_index_or l.claims.items i Unlinked ≡ Unlinked;
}
