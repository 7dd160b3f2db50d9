-- What the links to each signal say.
use Rattle.std.proofs.Common.{◌≡◌, ℕ, zero, suc, List, [], ◌∷◌, ◌++◌, slice_index_or, refl}
use Rattle.multiplex_tree.specs.declared.claim.Claim.{Claim}
use Rattle.multiplex_tree.specs.declared.claim.Claim.TheVariants.{Unlinked}

-- one more signal without links
pub unlinked_claims-append : (claims : List Claim) → ((i : ℕ) → slice_index_or claims i Unlinked ≡ Unlinked) →
    (i : ℕ) → slice_index_or (claims ++ Unlinked ∷ []) i Unlinked ≡ Unlinked
unlinked_claims-append [] h zero = refl
unlinked_claims-append [] h (suc i) = refl
unlinked_claims-append (c ∷ cs) h zero = h zero
unlinked_claims-append (c ∷ cs) h (suc i) = unlinked_claims-append cs (λ j. h (suc j)) i
