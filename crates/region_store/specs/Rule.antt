-- The rule of a store: its words and its seats show a state of the region machine that a schedule reaches, and
-- each image is of the kind that the store takes. It holds between any two steps.
use Rattle.std.specs.Prelude.{◌≡◌, ℕ, ◌-◌, ◌<◌, ◌≤◌, true, false, List, [], ◌∷◌, length, replicate, slice_index}
use Rattle.std.specs.Prelude.{All, Some, None}
use mathlib.Core.Option.{some}
use lib.ListN.{get_elem?}
use Rattle.atomic_table.specs.Table.{State}
use Rattle.epoch_core.specs.declared.lane.LaneState.TheVariants.{Idle, Holding}
use Rattle.epoch_core.specs.Machine.{Machine, lane_state, pin_of, words_of, image_of}
use Rattle.epoch_core.specs.Rule.{BeginsWith}
use Rattle.epoch_core.specs.Runs.{IsReached}
use Rattle.region_store.specs.declared.view.Use.{Use}
use Rattle.region_store.specs.declared.view.Shape.{Shape}
use Rattle.region_store.specs.declared.view.LaneView.{LaneView}
use Rattle.region_store.specs.declared.view.LoaderView.{LoaderView}
use Rattle.region_store.specs.declared.view.View.{View}
use Rattle.region_store.specs.Layout.{published_word, epoch_word, pin_place, place_of, word_count, packed}
use Rattle.region_store.specs.Layout.{most_regions, most_lanes, most_room}
use Rattle.region_store.specs.Images.{IsLike}
use Rattle.region_store.specs.Uses.{UsesFit, uses_in}

-- the limits of a store
pub record IsWithin (shape : Shape) : Type 0 where
  pub some_regions : 2 ≤ shape.regions
  pub few_regions : shape.regions ≤ most_regions
  pub some_lanes : 1 ≤ shape.lanes
  pub few_lanes : shape.lanes ≤ most_lanes
  pub some_room : 1 ≤ shape.room
  pub small_room : shape.room ≤ most_room

-- the views at the start
abbrev pub first_lane : ℕ → LaneView
first_lane lane = record { lane = lane; state = Idle; used = []; held = None; steps = [] }

abbrev pub first_loader : Shape → List ℕ → LoaderView
first_loader shape image = record {
  images = image ∷ [];
  draft = [];
  writing = None;
  epoch = 0;
  version = 0;
  region = 0;
  retired = replicate shape.regions None;
  cleared = replicate shape.lanes false ∷ replicate (shape.regions - 1) (replicate shape.lanes true);
  made = 0;
  kept = [];
  steps = [];
}

abbrev pub first_view : Shape → List ℕ → View
first_view shape image =
    record { is_loader = true; is_lane = false; shape = shape; loader = first_loader shape image; lane = first_lane 0 }

-- the words show the machine's epoch, its published version, its pins and its regions
pub record Words (room : ℕ) (ws : List ℕ) (m : Machine) : Type 0 where
  pub wide : length ws ≡ word_count (length m.regions) room
  pub published_is : slice_index ws published_word ≡ packed m.version m.region (length (image_of m m.version))
  pub epoch_is : slice_index ws epoch_word ≡ m.epoch
  pub pins_are : (lane : ℕ) → lane < length m.lanes → slice_index ws (pin_place lane) ≡ pin_of m lane
  pub short : (region : ℕ) → length (words_of m region) ≤ room
  pub regions_are :
      (region at : ℕ) → region < length m.regions → at < length (words_of m region)
      → slice_index ws (place_of room region at) ≡ slice_index (words_of m region) at

-- a lane's seat shows what the machine's lane does; its uses fit the images, and the one that it has is of the
-- version that the machine's lane holds
pub record LaneKnows (m : Machine) (made : ℕ) (v : LaneView) : Type 0 where
  pub low : v.lane < made
  pub state_is : lane_state m v.lane ≡ v.state
  pub uses : UsesFit m.images (uses_in v)
  pub held_is :
      (u : Use) → v.held ≡ Some u → (epoch : ℕ) × ((region : ℕ) × (v.state ≡ Holding epoch u.version region))

-- the loader's seat shows what the machine has as its images and its regions; what it has written is at
-- the head of the region being written, and the lanes that were joined fit the images, too
pub record LoaderKnows (m : Machine) (made : ℕ) (v : LoaderView) : Type 0 where
  pub made_is : v.made ≡ made
  pub images_are : v.images ≡ m.images
  pub epoch_is : v.epoch ≡ m.epoch
  pub version_is : v.version ≡ m.version
  pub region_is : v.region ≡ m.region
  pub writing_is : v.writing ≡ m.writing
  pub retired_is : v.retired ≡ m.retired
  pub cleared_is : v.cleared ≡ m.cleared
  pub draft_is : (region : ℕ) → v.writing ≡ Some region → BeginsWith (words_of m region) v.draft
  pub kept_fit : All (λ (l : LaneView). UsesFit m.images (uses_in l)) v.kept

-- one seat is the loader's, and no two are of one lane
pub record Knows (shape : Shape) (m : Machine) (made loader : ℕ) (seat_of : ℕ → ℕ) (seat : ℕ) (v : View) : Type 0 where
  pub as_loader : v.is_loader ≡ true → (seat ≡ loader) × (v.shape ≡ shape) × LoaderKnows m made v.loader
  pub as_lane : v.is_lane ≡ true → (seat_of v.lane.lane ≡ seat) × (v.shape ≡ shape) × LaneKnows m made v.lane

abbrev pub EachSeat : Shape → Machine → ℕ → ℕ → (ℕ → ℕ) → List View → Type 0
EachSeat shape m made loader seat_of views =
    (seat : ℕ) (v : View) → get_elem? views seat ≡ some v → Knows shape m made loader seat_of seat v

-- the rule, where the store shows this state of the machine
pub record KeptBy (shape : Shape) (image : List ℕ) (s : State (Unit {0}) View) (m : Machine) : Type 0 where
  pub within : IsWithin shape
  pub reached : IsReached m
  pub regions_are : length m.regions ≡ shape.regions
  pub lanes_are : length m.lanes ≡ shape.lanes
  pub words : Words shape.room s.words m
  pub good : All (IsLike image) m.images
  pub buses_are : shape.buses ≡ slice_index image 1
  pub made : ℕ
  pub made_low : made ≤ shape.lanes
  -- a lane that was not split off is idle
  pub unmade : (lane : ℕ) → made ≤ lane → lane_state m lane ≡ Idle
  pub loader : ℕ
  pub seat_of : ℕ → ℕ
  pub each_seat : EachSeat shape m made loader seat_of s.views

pub record Kept (shape : Shape) (image : List ℕ) (s : State (Unit {0}) View) : Type 0 where
  pub m : Machine
  pub by : KeptBy shape image s m
