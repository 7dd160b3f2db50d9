-- The rule of the region machine: it holds in the first state, and each step keeps it.
use Rattle.std.specs.Prelude.{◌≡◌, ◌≢◌, ℕ, ◌+◌, ◌<◌, ◌≤◌, ◌⊎◌, ◌^◌, false, List, length, take, Option, Some, None}
use Rattle.std.specs.List.{All}
use Rattle.epoch_core.specs.declared.lane.LaneState.{LaneState}
use Rattle.epoch_core.specs.declared.lane.LaneState.TheVariants.{Idle, Loaded, Pinned, Holding}
use Rattle.epoch_core.specs.Machine.{Machine, pin_for, lane_state, pin_of, words_of, image_of, retirement, is_cleared}
use Rattle.epoch_core.specs.Steps.{Holds, EveryLaneIsCleared, NoLaneIsCleared}

-- the first words are the image
abbrev pub BeginsWith : List ℕ → List ℕ → Type 0
BeginsWith words image = take (length image) words ≡ image

-- there is one entry by region or by lane in each list, and the version fits its word
pub record IsWellFormed (m : Machine) : Type 0 where
  pub published : m.region < length m.regions
  pub version : m.version < 2 ^ 32
  pub pins : length m.pins ≡ length m.lanes
  pub retired : length m.retired ≡ length m.regions
  pub cleared : length m.cleared ≡ length m.regions
  pub by_lane : All (λ row. length row ≡ length m.lanes) m.cleared

-- there is one image more than the version; the published region begins with the last one, is not retired,
-- and no lane is cleared for it
abbrev pub PublishedHoldsTheLastImage : Machine → Type 0
PublishedHoldsTheLastImage m =
    (length m.images ≡ m.version + 1) × BeginsWith (words_of m m.region) (image_of m m.version)
    × (retirement m m.region ≡ None) × NoLaneIsCleared m m.region

-- the epoch is the version or one less
abbrev pub EpochFollowsVersion : Machine → Type 0
EpochFollowsVersion m = (m.epoch ≤ m.version) × (m.version ≤ m.epoch + 1)

-- a pin is 0 until the lane has announced its epoch, which is none that is still to come
abbrev pub Announces : ℕ → LaneState → ℕ → Type 0
Announces now Idle pin = pin ≡ 0
Announces now (Loaded epoch) pin = (pin ≡ 0) × (epoch ≤ now)
Announces now (Pinned epoch) pin = (pin ≡ pin_for epoch) × (epoch ≤ now)
Announces now (Holding epoch version region) pin = (pin ≡ pin_for epoch) × (epoch ≤ now)

abbrev pub PinsAnnounceEpochs : Machine → Type 0
PinsAnnounceEpochs m = (lane : ℕ) → Announces m.epoch (lane_state m lane) (pin_of m lane)

-- a region was retired at no epoch that is still to come, or was never published and has every lane cleared
abbrev pub IsSpare : Machine → ℕ → Option ℕ → Type 0
IsSpare m region (Some epoch) = epoch ≤ m.epoch
IsSpare m region None = EveryLaneIsCleared m region

abbrev pub OthersAreSpare : Machine → Type 0
OthersAreSpare m = (region : ℕ) → region < length m.regions → region ≢ m.region → IsSpare m region (retirement m region)

-- the region was retired at no epoch before this one
abbrev pub IsRetiredSince : ℕ → Option ℕ → Type 0
IsRetiredSince epoch (Some retired) = epoch ≤ retired
IsRetiredSince epoch None = ⊥

-- a held version was published, and its region begins with its image; the region is published, or was retired
-- no earlier than the lane's epoch, and the lane is not cleared for it
abbrev pub IsSafe : Machine → ℕ → ℕ → ℕ → ℕ → Type 0
IsSafe m lane epoch version region =
    (version ≤ m.version) × (region < length m.regions) × BeginsWith (words_of m region) (image_of m version)
    × ((region ≡ m.region) ⊎ IsRetiredSince epoch (retirement m region)) × (is_cleared m region lane ≡ false)

abbrev pub HoldersAreSafe : Machine → Type 0
HoldersAreSafe m = (lane epoch version region : ℕ) → Holds m lane epoch version region → IsSafe m lane epoch version region

-- the region being written is not published, and every lane is cleared for it
abbrev pub WrittenIsFree : Machine → Type 0
WrittenIsFree m =
    (region : ℕ) → m.writing ≡ Some region → (region < length m.regions) × (region ≢ m.region) × EveryLaneIsCleared m region

pub record RegionRule (m : Machine) : Type 0 where
  pub well_formed : IsWellFormed m
  pub published : PublishedHoldsTheLastImage m
  pub epoch : EpochFollowsVersion m
  pub pins : PinsAnnounceEpochs m
  pub spare : OthersAreSpare m
  pub held : HoldersAreSafe m
  pub written : WrittenIsFree m
