-- Whole schedules of the region machine: every list of steps, each of which may be taken where it is taken.
use Rattle.std.specs.Prelude.{◌≡◌, ℕ, ◌≤◌, List, [], ◌∷◌}
use Rattle.epoch_core.specs.declared.step.Step.{Step}
use Rattle.epoch_core.specs.declared.step.Step.TheVariants.{W2}
use Rattle.epoch_core.specs.Machine.{Machine, first}
use Rattle.epoch_core.specs.Steps.{May, after}

-- the state after these steps
abbrev pub run : Machine → List Step → Machine
run m [] = m
run m (step ∷ steps) = run (after m step) steps

-- each step may be taken in the state that the steps before it leave
abbrev pub AreAllowed : Machine → List Step → Type 0
AreAllowed m [] = Unit {0}
AreAllowed m (step ∷ steps) = May m step × AreAllowed (after m step) steps

-- a step that publishes this region
abbrev pub Publishes : ℕ → Step → Type 0
Publishes region (W2 published size) = published ≡ region
Publishes region _ = ⊥

-- the limits of a first state
pub record AreWithinLimits (regions lanes : ℕ) : Type 0 where
  pub some_regions : 2 ≤ regions
  pub regions_end : regions ≤ 8
  pub some_lanes : 1 ≤ lanes
  pub lanes_end : lanes ≤ 16

-- a schedule of the machine brings it into this state
pub record IsReached (m : Machine) : Type 0 where
  pub region_count : ℕ
  pub lane_count : ℕ
  pub image : List ℕ
  pub steps : List Step
  pub limits : AreWithinLimits region_count lane_count
  pub allowed : AreAllowed (first region_count lane_count image) steps
  pub is : m ≡ run (first region_count lane_count image) steps
