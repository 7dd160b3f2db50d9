-- Where each step of a seat may be made, by what the seat knows.
use Rattle.std.specs.Prelude.{◌≡◌, ◌≢◌, ◌⊎◌, ℕ, ◌+◌, ◌<◌, true, length, Some, None}
use Rattle.epoch_core.specs.declared.lane.LaneState.TheVariants.{Idle, Loaded, Pinned, Holding}
use Rattle.epoch_core.specs.Machine.{pin_for}
use Rattle.region_store.specs.declared.view.Use.{Use}
use Rattle.region_store.specs.declared.view.View.{View}
use Rattle.region_store.specs.Layout.{pin_place, place_of, version_weight, packed}
use Rattle.region_store.specs.Steps.{retirement_of, is_clear}

-- a lane that does nothing loads the epoch
pub record MayLoad (v : View) : Type 0 where
  pub may : v.is_lane ≡ true
  pub idle : v.lane.state ≡ Idle
  pub none : v.lane.held ≡ None

-- and stores its pin
pub record MayPin (word n epoch : ℕ) (v : View) : Type 0 where
  pub may : v.is_lane ≡ true
  pub loaded : v.lane.state ≡ Loaded epoch
  pub none : v.lane.held ≡ None
  pub place : word ≡ pin_place v.lane.lane
  pub pin : n ≡ pin_for epoch

-- and loads the published word
pub record MayHold (epoch : ℕ) (v : View) : Type 0 where
  pub may : v.is_lane ≡ true
  pub pinned : v.lane.state ≡ Pinned epoch
  pub none : v.lane.held ≡ None

-- and words of its image
pub record MayRead (word at epoch version region : ℕ) (u : Use) (v : View) : Type 0 where
  pub may : v.is_lane ≡ true
  pub holds : v.lane.state ≡ Holding epoch version region
  pub held : v.lane.held ≡ Some u
  pub within : at < u.size
  pub place : word ≡ place_of v.shape.room region at

-- and lets go
pub record MayLetGo (word epoch version region : ℕ) (v : View) : Type 0 where
  pub may : v.is_lane ≡ true
  pub holds : v.lane.state ≡ Holding epoch version region
  pub place : word ≡ pin_place v.lane.lane

-- no lane can hold the region: it was never published, or every lane is cleared for it
abbrev pub IsFree : ℕ → View → Type 0
IsFree region v =
    (retirement_of v.loader region ≡ None)
    ⊎ ((lane : ℕ) → lane < v.shape.lanes → is_clear v.loader region lane ≡ true)

-- the loader stores the next word of such a region
pub record MayWrite (word region : ℕ) (v : View) : Type 0 where
  pub may : v.is_loader ≡ true
  pub there : region < v.shape.regions
  pub spare : region ≢ v.loader.region
  pub free : IsFree region v
  pub alone : (v.loader.writing ≡ None) ⊎ (v.loader.writing ≡ Some region)
  pub fresh : v.loader.writing ≡ None → length v.loader.draft ≡ 0
  pub room : length v.loader.draft < v.shape.room
  pub place : word ≡ place_of v.shape.room region (length v.loader.draft)

-- and publishes what it has written
pub record MayPublish (n region : ℕ) (v : View) : Type 0 where
  pub may : v.is_loader ≡ true
  pub writing : v.loader.writing ≡ Some region
  pub now : v.loader.epoch ≡ v.loader.version
  pub more : v.loader.version + 1 < version_weight
  pub word : n ≡ packed (v.loader.version + 1) region (length v.loader.draft)

-- and stores the epoch
pub record MayFollow (n : ℕ) (v : View) : Type 0 where
  pub may : v.is_loader ≡ true
  pub behind : v.loader.epoch < v.loader.version
  pub next : n ≡ v.loader.epoch + 1

-- and loads a pin, for a region that was retired
pub record MayLook (word region lane epoch : ℕ) (v : View) : Type 0 where
  pub may : v.is_loader ≡ true
  pub there : lane < v.shape.lanes
  pub retired : retirement_of v.loader region ≡ Some epoch
  pub place : word ≡ pin_place lane
