-- Two pieces one after another are known as one, and an empty piece changes nothing.
use Rattle.std.proofs.Common.{◌≡◌, ℕ, List, [], ◌++◌, Option, None, Some, refl, sym, ap, append_assoc}
use Rattle.std.proofs.lemmas.List.{append-nil}
use Rattle.std.specs.Io.KnownBytes.{prepend_known, append_known}

-- two pieces appended are one
pub append_known-append : (o : Option (List ℕ)) (xs ys : List ℕ) → append_known (append_known o xs) ys ≡ append_known o (xs ++ ys)
append_known-append None xs ys = refl
append_known-append (Some zs) xs ys = ap (λ (l : List ℕ). Some l) (append_assoc zs xs ys)

-- two pieces in front are one
pub prepend_known-prepend : (o : Option (List ℕ)) (xs ys : List ℕ) → prepend_known xs (prepend_known ys o) ≡ prepend_known (xs ++ ys) o
prepend_known-prepend None xs ys = refl
prepend_known-prepend (Some zs) xs ys = ap (λ (l : List ℕ). Some l) (sym (append_assoc xs ys zs))

-- nothing appended
pub append_known-nil : (o : Option (List ℕ)) → append_known o [] ≡ o
append_known-nil None = refl
append_known-nil (Some zs) = ap (λ (l : List ℕ). Some l) (append-nil zs)

-- nothing in front
pub prepend_known-nil : (o : Option (List ℕ)) → prepend_known [] o ≡ o
prepend_known-nil None = refl
prepend_known-nil (Some zs) = refl
