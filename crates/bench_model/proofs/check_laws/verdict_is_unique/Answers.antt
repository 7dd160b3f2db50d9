use Rattle.std.proofs.Common.{◌≡◌, ◌⊎◌, List, [], ◌∷◌, length, Some, refl, inl, inr}
use Rattle.std.specs.Prelude.{slice_get}
use Rattle.bench_model.specs.declared.fault.CheckFault.{CheckFault}
use Rattle.bench_model.specs.Check.{all_faults}
use Rattle.bench_model.proofs.check_laws.verdict_is_unique.Goals as goal

-- a list is empty or has a first
none_or_first : (faults : List CheckFault) →
    (length faults ≡ 0) ⊎ ((fault : CheckFault) × (slice_get faults 0 ≡ Some fault))
none_or_first [] = inl refl
none_or_first (fault ∷ faults) = inr (fault, refl)

pub returns-clause-some : goal.returns-clause-some
returns-clause-some c = λ d made.
    elim (none_or_first (all_faults d.messages)) [
      | inl none ↦ inl
          (record { made = made; faultless = none })
      | inr first ↦ inr first
    ]
