-- What holds of a value where it is there, and of bytes that are known.
use Rattle.std.proofs.Common.{◌≡◌, ℕ, List, [], ◌++◌, Option, Some, None, refl, ap, subst, append_assoc}
use Rattle.std.proofs.lemmas.List.{append-nil}
use Rattle.std.specs.Option.{IfSome, IsSome}
use Rattle.std.specs.Io.KnownBytes.{append_known}

pub if_some : {A : Type 0} (o : Option A) (P : A → Type 0) → ((x : A) → o ≡ Some x → P x) → IfSome o P
if_some None P f = tt
if_some (Some x) P f = f x refl

pub of_some : {A : Type 0} (o : Option A) (P : A → Type 0) (x : A) → o ≡ Some x → IfSome o P → P x
of_some o P x e h = subst (λ q. IfSome q P) e h

-- nothing is no value
pub no_value : (A : Type 0) → IsSome {T = A} None → ⊥
no_value A h = cc

-- nothing appended
pub append_known-nil : (o : Option (List ℕ)) → append_known o [] ≡ o
append_known-nil None = refl
append_known-nil (Some xs) = ap (λ (l : List ℕ). Some l) (append-nil xs)

-- two pieces appended are one
pub append_known-append : (o : Option (List ℕ)) (xs ys : List ℕ) → append_known (append_known o xs) ys ≡ append_known o (xs ++ ys)
append_known-append None xs ys = refl
append_known-append (Some zs) xs ys = ap (λ (l : List ℕ). Some l) (append_assoc zs xs ys)
