-- The steps of the region machine: where each may be taken, and its effect. What an effect does not name
-- stays as it was.
use Rattle.std.specs.Prelude.{◌≡◌, ◌≢◌, ℕ, ◌+◌, ◌<◌, ◌≤◌, ◌⊎◌, ◌==◌, ◌||◌, nat_lt, Bool, true, false, List, [], ◌∷◌, ◌++◌, length, take, replicate, slice_set, Option, Some, None, if◌then◌else◌}
use Rattle.std.specs.List.{All}
use Rattle.epoch_core.specs.declared.lane.LaneState.{LaneState}
use Rattle.epoch_core.specs.declared.lane.LaneState.TheVariants.{Idle, Loaded, Pinned, Holding}
use Rattle.epoch_core.specs.declared.step.Step.{Step}
use Rattle.epoch_core.specs.declared.step.Step.TheVariants.{L1, L2, L3, L4, L5, W1, W2, W3, W4, S, J}
use Rattle.epoch_core.specs.Machine.{Machine, pin_for, lane_state, pin_of, words_of, retirement, clearings, is_cleared}

-- the lane holds this version in this region, and announced this epoch before it took hold
abbrev pub Holds : Machine → ℕ → ℕ → ℕ → ℕ → Type 0
Holds m lane epoch version region = lane_state m lane ≡ Holding epoch version region

-- the lane holds no version in any region
abbrev pub HoldsNothing : Machine → ℕ → Type 0
HoldsNothing m lane = (epoch version region : ℕ) → ¬ Holds m lane epoch version region

-- the lane is there and idle
abbrev pub IsIdle : Machine → ℕ → Type 0
IsIdle m lane = (lane < length m.lanes) × (lane_state m lane ≡ Idle)

abbrev pub EveryLaneIsCleared : Machine → ℕ → Type 0
EveryLaneIsCleared m region = All (λ is. is ≡ true) (clearings m region)

abbrev pub NoLaneIsCleared : Machine → ℕ → Type 0
NoLaneIsCleared m region = All (λ is. is ≡ false) (clearings m region)

-- no region but this one is being written
abbrev pub NoOtherIsWritten : Machine → ℕ → Type 0
NoOtherIsWritten m region = (m.writing ≡ None) ⊎ (m.writing ≡ Some region)

-- where a step may be taken
abbrev pub May : Machine → Step → Type 0
May m (L1 lane) = IsIdle m lane
May m (L2 lane) = (epoch : ℕ) × (lane_state m lane ≡ Loaded epoch)
May m (L3 lane) = (epoch : ℕ) × (lane_state m lane ≡ Pinned epoch)
May m (L4 lane place) =
    (epoch : ℕ) × ((version : ℕ) × ((region : ℕ) × (Holds m lane epoch version region × (place < length (words_of m region)))))
May m (L5 lane) = (epoch : ℕ) × ((version : ℕ) × ((region : ℕ) × Holds m lane epoch version region))
May m (W1 region place word) =
    (region < length m.regions) × (region ≢ m.region) × EveryLaneIsCleared m region × NoOtherIsWritten m region
    × (place ≤ length (words_of m region))
May m (W2 region size) =
    (region < length m.regions) × (m.writing ≡ Some region) × (size ≤ length (words_of m region)) × (m.epoch ≡ m.version)
    × (m.version < 4294967295)
May m W3 = m.epoch < m.version
May m (W4 region lane) = (lane < length m.lanes) × ((epoch : ℕ) × (retirement m region ≡ Some epoch))
May m S = Unit {0}
May m (J lane) = IsIdle m lane

-- the lane and the region that a step names are there
abbrev pub NamesWhatIsThere : Machine → Step → Type 0
NamesWhatIsThere m (L1 lane) = lane < length m.lanes
NamesWhatIsThere m (L2 lane) = lane < length m.lanes
NamesWhatIsThere m (L3 lane) = lane < length m.lanes
NamesWhatIsThere m (L4 lane place) = lane < length m.lanes
NamesWhatIsThere m (L5 lane) = lane < length m.lanes
NamesWhatIsThere m (W1 region place word) = region < length m.regions
NamesWhatIsThere m (W2 region size) = region < length m.regions
NamesWhatIsThere m W3 = Unit {0}
NamesWhatIsThere m (W4 region lane) = (region < length m.regions) × (lane < length m.lanes)
NamesWhatIsThere m S = Unit {0}
NamesWhatIsThere m (J lane) = lane < length m.lanes

-- whether a step takes memory: a region grows, or an image is kept
abbrev pub TakesMemory : Machine → Step → Type 0
TakesMemory m (W1 region place word) = place ≡ length (words_of m region)
TakesMemory m (W2 region size) = Unit {0}
TakesMemory m (L1 lane) = ⊥
TakesMemory m (L2 lane) = ⊥
TakesMemory m (L3 lane) = ⊥
TakesMemory m (L4 lane place) = ⊥
TakesMemory m (L5 lane) = ⊥
TakesMemory m W3 = ⊥
TakesMemory m (W4 region lane) = ⊥
TakesMemory m S = ⊥
TakesMemory m (J lane) = ⊥

-- the epoch that a lane has loaded
abbrev pub loaded_epoch : LaneState → ℕ
loaded_epoch Idle = 0
loaded_epoch (Loaded epoch) = epoch
loaded_epoch (Pinned epoch) = epoch
loaded_epoch (Holding epoch version region) = epoch

-- the words with one stored: the region grows where it is stored at their end
abbrev pub stored : List ℕ → ℕ → ℕ → List ℕ
stored words place word = if place == length words then words ++ word ∷ [] else slice_set words place word

-- whether a lane with this pin cannot hold a region that was retired at this epoch: it reads nothing, or
-- announced a later epoch, which was stored after the region was retired
abbrev pub is_past : ℕ → Option ℕ → Bool
is_past pin None = false
is_past pin (Some epoch) = (pin == 0) || nat_lt (pin_for epoch) pin

-- the state after a step
abbrev pub after : Machine → Step → Machine
after m (L1 lane) = record m { lanes = slice_set m.lanes lane (Loaded m.epoch) }
after m (L2 lane) = record m {
  pins = slice_set m.pins lane (pin_for (loaded_epoch (lane_state m lane)));
  lanes = slice_set m.lanes lane (Pinned (loaded_epoch (lane_state m lane)));
}
after m (L3 lane) = record m {
  lanes = slice_set m.lanes lane (Holding (loaded_epoch (lane_state m lane)) m.version m.region);
}
after m (L4 lane place) = m
after m (L5 lane) = record m { pins = slice_set m.pins lane 0; lanes = slice_set m.lanes lane Idle }
after m (W1 region place word) = record m {
  regions = slice_set m.regions region (stored (words_of m region) place word);
  writing = Some region;
}
after m (W2 region size) = record m {
  version = m.version + 1;
  region = region;
  images = m.images ++ take size (words_of m region) ∷ [];
  retired = slice_set (slice_set m.retired m.region (Some m.epoch)) region None;
  writing = None;
  cleared = slice_set m.cleared region (replicate (length m.lanes) false);
}
after m W3 = record m { epoch = m.epoch + 1 }
after m (W4 region lane) = record m {
  cleared = slice_set m.cleared region
      (slice_set (clearings m region) lane (is_cleared m region lane || is_past (pin_of m lane) (retirement m region)));
}
after m S = m
after m (J lane) = m
