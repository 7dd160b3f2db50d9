-- What each step of a seat changes in its view, and what it shows. Each step enters the word that it loaded or
-- stored in its seat's steps, whichever word that was.
use Rattle.std.specs.Prelude.{◌≡◌, ℕ, ◌+◌, ◌-◌, ◌<◌, ◌≤◌, ◌||◌, Bool, All, true, false, List, [], ◌∷◌, ◌++◌}
use Rattle.std.specs.Prelude.{replicate, slice_set, slice_index_or, option_map, option_to_list, Option, Some, None}
use Rattle.atomic_table.specs.Table.{Me, Step}
use Rattle.epoch_core.specs.declared.lane.LaneState.{LaneState}
use Rattle.epoch_core.specs.declared.lane.LaneState.TheVariants.{Idle, Loaded, Pinned, Holding}
use Rattle.epoch_core.specs.Steps.{loaded_epoch, is_past}
use Rattle.image_words.specs.Knowledge.{SomeFits}
use Rattle.region_store.specs.declared.view.Did.{Did}
use Rattle.region_store.specs.declared.view.Did.TheVariants as did
use Rattle.region_store.specs.declared.view.Use.{Use}
use Rattle.region_store.specs.declared.view.Shape.{Shape}
use Rattle.region_store.specs.declared.view.LaneView.{LaneView}
use Rattle.region_store.specs.declared.view.LoaderView.{LoaderView}
use Rattle.region_store.specs.declared.view.View.{View}
use Rattle.region_store.specs.Layout.{place_of, lane_at, version_weight, version_in, region_in, size_in}
use Rattle.region_store.specs.Uses.{known_in, knowledge_of}
use Rattle.region_store.specs.Rule.{first_lane, first_loader}

abbrev pub Sat : Type 0
Sat = Me (Unit {0}) View

abbrev pub At : Type 0
At = Step (Unit {0})

abbrev pub lane_did : LaneView → Did → LaneView
lane_did v what = record v { steps = v.steps ++ what ∷ [] }

abbrev pub loader_did : LoaderView → Did → LoaderView
loader_did v what = record v { steps = v.steps ++ what ∷ [] }

-- Each step is seen through one of these four: the steps of its seat grow by this very load or store, of the word
-- that the step was made on and with the value that it found or stored, the seat changes so, and it learns this.
abbrev pub LaneLoads :
    (At → ℕ → View → LaneView) → (At → ℕ → View → Type 0) → At → Sat → ℕ → Sat → Type 0
LaneLoads change shows st m n m' =
    (m'.0 ≡ record m.0 { lane = lane_did (change st n m.0) (did.Loaded st.word n) }) × (m'.1 ≡ m.1) × shows st n m.0

abbrev pub LaneStores : (At → ℕ → View → LaneView) → At → Sat → ℕ → Sat → Type 0
LaneStores change st m n m' =
    (m'.0 ≡ record m.0 { lane = lane_did (change st n m.0) (did.Stored st.word n) }) × (m'.1 ≡ m.1)

abbrev pub LoaderLoads :
    (At → ℕ → View → LoaderView) → (At → ℕ → View → Type 0) → At → Sat → ℕ → Sat → Type 0
LoaderLoads change shows st m n m' =
    (m'.0 ≡ record m.0 { loader = loader_did (change st n m.0) (did.Loaded st.word n) }) × (m'.1 ≡ m.1)
    × shows st n m.0

abbrev pub LoaderStores : (At → ℕ → View → LoaderView) → At → Sat → ℕ → Sat → Type 0
LoaderStores change st m n m' =
    (m'.0 ≡ record m.0 { loader = loader_did (change st n m.0) (did.Stored st.word n) }) × (m'.1 ≡ m.1)

-- the lane has loaded the epoch
abbrev pub with_epoch : ℕ → LaneView → LaneView
with_epoch n v = record v { state = Loaded n }

abbrev pub saw_epoch : At → ℕ → View → LaneView
saw_epoch st n v = with_epoch n v.lane

-- an epoch is no higher than the version
abbrev pub epoch_shown : At → ℕ → View → Type 0
epoch_shown st n v = n < version_weight

-- it has stored its pin
abbrev pub with_pin : LaneView → LaneView
with_pin v = record v { state = Pinned (loaded_epoch v.state) }

abbrev pub stored_pin : At → ℕ → View → LaneView
stored_pin st n v = with_pin v.lane

-- it has loaded the published word: it holds the version that this names
abbrev pub use_of : ℕ → ℕ → Use
use_of lines n = record { version = version_in n; size = size_in n; lines = lines; words = [] }

abbrev pub with_hold : ℕ → ℕ → LaneView → LaneView
with_hold lines n v = record v {
  state = Holding (loaded_epoch v.state) (version_in n) (region_in n);
  held = Some (use_of lines n);
}

abbrev pub saw_published : ℕ → At → ℕ → View → LaneView
saw_published lines st n v = with_hold lines n v.lane

-- the version is not below any that it used, the region is there and has room for the image, and some list fits
pub record IsFresh (lines n : ℕ) (v : View) : Type 0 where
  pub newest : All (λ u. u.version ≤ version_in n) v.lane.used
  pub small : version_in n < version_weight
  pub region : region_in n < v.shape.regions
  pub room : size_in n ≤ v.shape.room
  pub fits : SomeFits (knowledge_of v.shape.buses (use_of lines n))

abbrev pub published_shown : ℕ → At → ℕ → View → Type 0
published_shown lines st n v = IsFresh lines n v

-- it has loaded a word of its region
abbrev pub region_held : LaneState → ℕ
region_held Idle = 0
region_held (Loaded epoch) = 0
region_held (Pinned epoch) = 0
region_held (Holding epoch version region) = region

abbrev pub at_in : View → ℕ → ℕ
at_in v word = word - place_of v.shape.room (region_held v.lane.state) 0

abbrev pub with_read : ℕ → ℕ → Use → Use
with_read at n u = record u { words = record { at = at; word = n } ∷ u.words }

abbrev pub with_word : ℕ → ℕ → LaneView → LaneView
with_word at n v = record v { held = option_map (with_read at n) v.held }

abbrev pub saw_word : At → ℕ → View → LaneView
saw_word st n v = with_word (at_in v st.word) n v.lane

-- it is the word that was read there before, if any was, and some list fits
pub record IsReadOf (at n buses : ℕ) (u : Use) : Type 0 where
  pub same : (w : ℕ) → known_in u.words at ≡ Some w → w ≡ n
  pub fits : SomeFits (knowledge_of buses (with_read at n u))

abbrev pub word_shown : At → ℕ → View → Type 0
word_shown st n v = (u : Use) → v.lane.held ≡ Some u → IsReadOf (at_in v st.word) n v.shape.buses u

-- it has let go
abbrev pub with_none : LaneView → LaneView
with_none v = record v { state = Idle; used = v.used ++ option_to_list v.held; held = None }

abbrev pub let_go : At → ℕ → View → LaneView
let_go st n v = with_none v.lane

-- the loader has stored a word of a region
abbrev pub with_written : ℕ → ℕ → LoaderView → LoaderView
with_written region n v = record v { writing = Some region; draft = v.draft ++ n ∷ [] }

abbrev pub stored_word : ℕ → At → ℕ → View → LoaderView
stored_word region st n v = with_written region n v.loader

-- it has stored the published word: what it has written is the image of the next version
abbrev pub with_published : ℕ → ℕ → LoaderView → LoaderView
with_published lanes region v = record v {
  version = v.version + 1;
  region = region;
  images = v.images ++ v.draft ∷ [];
  draft = [];
  writing = None;
  retired = slice_set (slice_set v.retired v.region (Some v.epoch)) region None;
  cleared = slice_set v.cleared region (replicate lanes false);
}

abbrev pub stored_published : At → ℕ → View → LoaderView
stored_published st n v = with_published v.shape.lanes (region_in n) v.loader

-- it has stored the epoch
abbrev pub with_next : LoaderView → LoaderView
with_next v = record v { epoch = v.epoch + 1 }

abbrev pub stored_epoch : At → ℕ → View → LoaderView
stored_epoch st n v = with_next v.loader

-- it has loaded a lane's pin, for a region that was retired
abbrev pub row_of : LoaderView → ℕ → List Bool
row_of v region = slice_index_or v.cleared region []

abbrev pub retirement_of : LoaderView → ℕ → Option ℕ
retirement_of v region = slice_index_or v.retired region None

abbrev pub is_clear : LoaderView → ℕ → ℕ → Bool
is_clear v region lane = slice_index_or (row_of v region) lane false

abbrev pub with_clearing : ℕ → ℕ → ℕ → LoaderView → LoaderView
with_clearing region lane n v = record v {
  cleared = slice_set v.cleared region
      (slice_set (row_of v region) lane (is_clear v region lane || is_past n (retirement_of v region)));
}

abbrev pub saw_pin : ℕ → At → ℕ → View → LoaderView
saw_pin region st n v = with_clearing region (lane_at st.word) n v.loader

-- a pin that is past clears its lane, and lanes that were cleared stay so
pub record IsLook (region lane n : ℕ) (v : LoaderView) : Type 0 where
  pub past : is_past n (retirement_of v region) ≡ true → is_clear (with_clearing region lane n v) region lane ≡ true
  pub stay : (l : ℕ) → is_clear v region l ≡ true → is_clear (with_clearing region lane n v) region l ≡ true

abbrev pub pin_shown : ℕ → At → ℕ → View → Type 0
pin_shown region st n v = IsLook region (lane_at st.word) n v.loader

-- the seats: a lane is split off the loader's seat, and a lane is joined into it
abbrev pub loader_side : View → View
loader_side v = record v { loader = record v.loader { made = v.loader.made + 1 } }

abbrev pub lane_side : View → View
lane_side v = record v { is_loader = false; is_lane = true; lane = first_lane v.loader.made }

abbrev pub both_sides : View → View → View
both_sides v w = record v { loader = record v.loader { kept = v.loader.kept ++ w.lane ∷ [] } }

abbrev pub no_shape : Shape
no_shape = record { regions = 0; lanes = 0; room = 0; buses = 0 }

abbrev pub spent_view : View
spent_view = record {
  is_loader = false;
  is_lane = false;
  shape = no_shape;
  loader = first_loader no_shape [];
  lane = first_lane 0;
}
