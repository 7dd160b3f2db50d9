-- The state of the region machine, after Fraser's epoch-based reclamation: one loader writes images into
-- regions and publishes them, and lanes announce in their pins the epoch in which they began to read.
use Rattle.std.specs.Prelude.{ℕ, ◌+◌, ◌-◌, Bool, true, false, List, [], ◌∷◌, replicate, slice_index_or, Option, None}
use Rattle.epoch_core.specs.declared.lane.LaneState.{LaneState}
use Rattle.epoch_core.specs.declared.lane.LaneState.TheVariants.{Idle}

pub record Machine : Type 0 where
  -- the epoch that the loader has stored
  pub epoch : ℕ
  -- the published version and the region that holds its image: the published word
  pub version : ℕ
  pub region : ℕ
  -- by lane, its pin word: 0, or that of the epoch that it announced
  pub pins : List ℕ
  -- by region, its words
  pub regions : List (List ℕ)
  -- by region, the epoch at which it was retired, where it was since it was last published
  pub retired : List (Option ℕ)
  -- by version, its image
  pub images : List (List ℕ)
  -- the region being written
  pub writing : Option ℕ
  -- by lane, what it does
  pub lanes : List LaneState
  -- by region and lane, whether the loader knows that the lane cannot hold the region
  pub cleared : List (List Bool)

-- the pin that announces an epoch; 0 announces none
abbrev pub pin_for : ℕ → ℕ
pin_for epoch = epoch + 1

-- what a lane does; a lane that is not there is idle
abbrev pub lane_state : Machine → ℕ → LaneState
lane_state m lane = slice_index_or m.lanes lane Idle

abbrev pub pin_of : Machine → ℕ → ℕ
pin_of m lane = slice_index_or m.pins lane 0

abbrev pub words_of : Machine → ℕ → List ℕ
words_of m region = slice_index_or m.regions region []

abbrev pub image_of : Machine → ℕ → List ℕ
image_of m version = slice_index_or m.images version []

-- the epoch at which a region was retired
abbrev pub retirement : Machine → ℕ → Option ℕ
retirement m region = slice_index_or m.retired region None

-- which lanes are cleared for a region
abbrev pub clearings : Machine → ℕ → List Bool
clearings m region = slice_index_or m.cleared region []

abbrev pub is_cleared : Machine → ℕ → ℕ → Bool
is_cleared m region lane = slice_index_or (clearings m region) lane false

-- the first state: region 0 is exactly the image and is published as version 0, the other regions are empty,
-- no lane is cleared for region 0, and every lane is cleared for each other region
abbrev pub first : ℕ → ℕ → List ℕ → Machine
first regions lanes image = record {
  epoch = 0;
  version = 0;
  region = 0;
  pins = replicate lanes 0;
  regions = image ∷ replicate (regions - 1) [];
  retired = replicate regions None;
  images = image ∷ [];
  writing = None;
  lanes = replicate lanes Idle;
  cleared = replicate lanes false ∷ replicate (regions - 1) (replicate lanes true);
}
