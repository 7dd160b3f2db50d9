-- The words of a store at the start, the seats of a store, and what is known once it is closed.
use Rattle.std.specs.Prelude.{◌≡◌, ℕ, ◌+◌, ◌<◌, ◌≤◌, true, false, List, [], length, slice_index, All, Some, None}
use Rattle.atomic_table.specs.Seated.{TableId}
use Rattle.atomic_table.specs.declared.shared.Seat.{Seat}
use Rattle.epoch_core.specs.declared.lane.LaneState.TheVariants.{Idle, Holding}
use Rattle.epoch_core.specs.Steps.{loaded_epoch}
use Rattle.region_store.specs.declared.view.About.{About}
use Rattle.region_store.specs.declared.view.Shape.{Shape}
use Rattle.region_store.specs.declared.view.LaneView.{LaneView}
use Rattle.region_store.specs.declared.view.LoaderView.{LoaderView}
use Rattle.region_store.specs.declared.view.View.{View}
use Rattle.region_store.specs.Layout.{published_word, first_region, place_of, word_count}
use Rattle.region_store.specs.Images.{IsLike}
use Rattle.region_store.specs.Uses.{UsesFit, uses_in, use_held}
use Rattle.region_store.specs.Steps.{region_held}
use Rattle.region_store.specs.Rule.{IsWithin}

abbrev pub Place : Type 0
Place = Seat (Unit {0}) View

-- the words at the start: the length of the first image, zeros, and the image in the first region
pub record AreFirstWords (shape : Shape) (image ws : List ℕ) : Type 0 where
  pub wide : length ws ≡ word_count shape.regions shape.room
  pub size : slice_index ws published_word ≡ length image
  pub zeros : (i : ℕ) → 0 < i → i < first_region → slice_index ws i ≡ 0
  pub image_is : (i : ℕ) → i < length image → slice_index ws (first_region + i) ≡ slice_index image i

-- a seat of the store with this table, that holds no slot
pub record IsOn (id : TableId) (about : About) (seat : Place) : Type 0 where
  pub own : seat.table_id ≡ id
  pub wide : id.words ≡ word_count about.shape.regions about.shape.room
  pub shape : seat.me.0.shape ≡ about.shape
  pub within : IsWithin about.shape
  pub no_slot : seat.me.1 ≡ []

-- a lane between two pins
pub record LaneRests (lane : ℕ) (v : View) : Type 0 where
  pub is_lane : v.is_lane ≡ true
  pub lane_is : v.lane.lane ≡ lane
  pub idle : v.lane.state ≡ Idle
  pub no_pin : v.lane.held ≡ None

-- the loader between two publications
pub record LoaderRests (version region : ℕ) (v : View) : Type 0 where
  pub is_loader : v.is_loader ≡ true
  pub no_lane : v.is_lane ≡ false
  pub none_kept : v.loader.kept ≡ []
  pub version_is : v.loader.version ≡ version
  pub region_is : v.loader.region ≡ region
  pub epoch_is : v.loader.epoch ≡ version
  pub no_draft : v.loader.draft ≡ []
  pub not_writing : v.loader.writing ≡ None
  pub region_low : region < v.shape.regions

-- what the loader's view shows once no other seat is left: one image for each version, each of the kind that the
-- store takes, and the lanes that were joined used these images
pub record IsGathered (first : List ℕ) (v : LoaderView) : Type 0 where
  pub count : length v.images ≡ v.version + 1
  pub like : All (IsLike first) v.images
  pub fit : All (λ (l : LaneView). UsesFit v.images (uses_in l)) v.kept

-- a lane with its pin: it holds this version, whose image of this length begins at this word
pub record PinRests (lane version size start : ℕ) (v : View) : Type 0 where
  pub is_lane : v.is_lane ≡ true
  pub lane_is : v.lane.lane ≡ lane
  pub held : v.lane.held ≡ Some (use_held v.lane.held)
  pub holds : v.lane.state ≡ Holding (loaded_epoch v.lane.state) version (region_held v.lane.state)
  pub version_is : (use_held v.lane.held).version ≡ version
  pub size_is : (use_held v.lane.held).size ≡ size
  pub start_is : start ≡ place_of v.shape.room (region_held v.lane.state) 0
  pub region_low : region_held v.lane.state < v.shape.regions
  pub size_low : size ≤ v.shape.room
