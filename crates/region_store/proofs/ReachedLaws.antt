-- A state that a schedule reaches keeps the machine's rule, and each step that it allows leads to such a state.
use Rattle.std.proofs.Common.{◌≡◌, ℕ, List, [], ◌∷◌, ◌++◌, refl, sym, ap, ◌∙◌, subst}
use Rattle.epoch_core.specs.declared.step.Step.{Step}
use Rattle.epoch_core.specs.Machine.{Machine, first}
use Rattle.epoch_core.specs.Steps.{May, after}
use Rattle.epoch_core.specs.Rule.{RegionRule}
use Rattle.epoch_core.specs.Runs.{run, AreAllowed, AreWithinLimits, IsReached}

-- what the machine's law says of whole schedules
abbrev pub EverySchedule : Type 0
EverySchedule = (regions lanes : ℕ) (image : List ℕ) (steps : List Step) → AreWithinLimits regions lanes
    → AreAllowed (first regions lanes image) steps → RegionRule (run (first regions lanes image) steps)

pub reached_rule : EverySchedule → (m : Machine) → IsReached m → RegionRule m
reached_rule law m r = subst RegionRule (sym r.is) (law r.region_count r.lane_count r.image r.steps r.limits r.allowed)

run_push : (m : Machine) (steps : List Step) (step : Step) → run m (steps ++ step ∷ []) ≡ after (run m steps) step
run_push m [] step = refl
run_push m (x ∷ xs) step = run_push (after m x) xs step

allowed_push : (m : Machine) (steps : List Step) (step : Step) → AreAllowed m steps → May (run m steps) step → AreAllowed m (steps ++ step ∷ [])
allowed_push m [] step all may = (may, tt)
allowed_push m (x ∷ xs) step all may = (all.0, allowed_push (after m x) xs step all.1 may)

pub reached_after : (m : Machine) (step : Step) → IsReached m → May m step → IsReached (after m step)
reached_after m step r may =
    let start : Machine = first r.region_count r.lane_count r.image in
    record {
      region_count = r.region_count;
      lane_count = r.lane_count;
      image = r.image;
      steps = r.steps ++ step ∷ [];
      limits = r.limits;
      allowed = allowed_push start r.steps step r.allowed (subst (λ x. May x step) r.is may);
      is = ap (λ x. after x step) r.is ∙ sym (run_push start r.steps step);
    }
