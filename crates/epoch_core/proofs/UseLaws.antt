-- A region that was published once is published or retired ever after.
use Rattle.std.proofs.Common.{◌≡◌, ◌≢◌, ◌⊎◌, ℕ, ◌<◌, List, [], ◌∷◌, length, set, Option, Some, None, inl, inr, sym, refl, arith, ◌∙◌}
use Rattle.std.specs.List.{All}
use Rattle.std.proofs.lemmas.List.{length-set}
use Rattle.std.proofs.lemmas.List.Elements.{All-cons}
use Rattle.epoch_core.specs.declared.step.Step.{Step}
use Rattle.epoch_core.specs.declared.step.Step.TheVariants.{L1, L2, L3, L4, L5, W1, W2, W3, W4, S, J}
use Rattle.epoch_core.specs.Machine.{Machine, retirement}
use Rattle.epoch_core.specs.Steps.{May, after}
use Rattle.epoch_core.specs.Rule.{RegionRule}
use Rattle.epoch_core.specs.Runs.{run, AreAllowed, Publishes}
use Rattle.epoch_core.proofs.ListLaws.{read_after_set}
use Rattle.epoch_core.proofs.ScheduleLaws.{kept}

-- the region is the published one, or was retired since it was
abbrev IsUsed : Machine → ℕ → Type 0
IsUsed m region = (region ≡ m.region) ⊎ (retirement m region ≢ None)

used_after_publication : (m : Machine) (published size region : ℕ) → May m (W2 published size) → RegionRule m →
    IsUsed m region → IsUsed (after m (W2 published size)) region
used_after_publication m published size region may rule used =
    let Q : Option ℕ → Type 0 = λ o. (region ≡ published) ⊎ (o ≢ None) in
    let here : m.region < length m.retired = omega (arith, rule.well_formed.published, rule.well_formed.retired) in
    let there : published < length (set m.retired m.region (Some m.epoch)) =
    omega (arith, may.0, rule.well_formed.retired, length-set m.retired m.region (Some m.epoch)) in
    read_after_set Q (set m.retired m.region (Some m.epoch)) published region None None there
    (λ same. inl same)
    (λ _. read_after_set Q m.retired m.region region (Some m.epoch) None here
    (λ _. inr (λ e. cc e))
    (λ other. elim used as (λ _. Q (retirement m region)) [
      | inl same ↦ absurd (other same)
      | inr retired ↦ inr retired
    ]))

used_after : (m : Machine) (step : Step) (region : ℕ) → May m step → RegionRule m → IsUsed m region → IsUsed (after m step) region
used_after m (L1 lane) region may rule used = used
used_after m (L2 lane) region may rule used = used
used_after m (L3 lane) region may rule used = used
used_after m (L4 lane place) region may rule used = used
used_after m (L5 lane) region may rule used = used
used_after m (W1 stored place word) region may rule used = used
used_after m (W2 published size) region may rule used = used_after_publication m published size region may rule used
used_after m W3 region may rule used = used
used_after m (W4 cleared lane) region may rule used = used
used_after m S region may rule used = used
used_after m (J lane) region may rule used = used

-- a step that publishes a region makes it used
used_by : (m : Machine) (step : Step) (region : ℕ) → Publishes region step → IsUsed (after m step) region
used_by m (L1 lane) region is = elim is [ ]
used_by m (L2 lane) region is = elim is [ ]
used_by m (L3 lane) region is = elim is [ ]
used_by m (L4 lane place) region is = elim is [ ]
used_by m (L5 lane) region is = elim is [ ]
used_by m (W1 stored place word) region is = elim is [ ]
used_by m (W2 published size) region is = inl (sym is)
used_by m W3 region is = elim is [ ]
used_by m (W4 cleared lane) region is = elim is [ ]
used_by m S region is = elim is [ ]
used_by m (J lane) region is = elim is [ ]

-- a region that is not used after some steps was not before, and none of them published it
pub was_unused : (m : Machine) (steps : List Step) (region : ℕ) → AreAllowed m steps → RegionRule m →
    region ≢ (run m steps).region → retirement (run m steps) region ≡ None →
    (¬ IsUsed m region) × All (λ step. ¬ Publishes region step) steps
was_unused m [] region allowed rule other never = (
  λ used. elim used as (λ _. ⊥) [
    | inl same ↦ other same
    | inr retired ↦ retired never
  ],
  λ i d h. absurd (omega (arith, h)),
)
was_unused m (step ∷ steps) region allowed rule other never =
    let later = was_unused (after m step) steps region allowed.1 (kept m step allowed.0 rule) other never in (
      λ used. later.0 (used_after m step region allowed.0 rule used),
      All-cons (λ s. ¬ Publishes region s) step steps (λ is. later.0 (used_by m step region is)) later.1,
    )
