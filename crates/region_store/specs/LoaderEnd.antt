-- The loader's seat, and the seats of all lanes, as their callers see them.
use Rattle.std.specs.Prelude.{◌≡◌, ℕ, ◌<◌, ◌≤◌, [], ◌∷◌, ◌++◌, List, length, take, slice_index_or}
use Rattle.atomic_table.specs.Seated.{TableId}
use Rattle.region_store.specs.declared.store.Store.{Store}
use Rattle.region_store.specs.declared.lane.LaneSeat.{LaneSeat}
use Rattle.region_store.specs.declared.loader.LoaderSeat.{LoaderSeat}
use Rattle.region_store.specs.declared.view.About.{About}
use Rattle.region_store.specs.declared.view.Did.{Did}
use Rattle.region_store.specs.declared.view.LaneView.{LaneView}
use Rattle.region_store.specs.declared.view.View.{View}
use Rattle.region_store.specs.Rule.{first_lane}
use Rattle.region_store.specs.Store.{IsOn}
use Rattle.region_store.specs.Ends.{store_id, first_of}

abbrev pub view_of_loader : LoaderSeat → View
view_of_loader l = l.seat.me.0

-- the published images, by version, and the loader's loads and stores
abbrev pub images_of : LoaderSeat → List (List ℕ)
images_of l = (view_of_loader l).loader.images

abbrev pub steps_of_loader : LoaderSeat → List Did
steps_of_loader l = (view_of_loader l).loader.steps

-- the seat was made with this store, its first image is the store's, and it published no version above the last
pub record IsLoaderOf (s : Store) (l : LoaderSeat) : Type 0 where
  pub on : IsOn (store_id s) s.table.shared.key l.seat
  pub low : l.version ≤ s.last
  pub begins : take 1 (images_of l) ≡ first_of s ∷ []

abbrev pub with_made : ℕ → View → View
with_made count v = record v { loader = record v.loader { made = count } }

-- the seats of so many lanes, in order, which used nothing yet
pub record AreLanes (id : TableId) (about : About) (count : ℕ) (ls : List LaneSeat) : Type 0 where
  pub size : length ls ≡ count
  pub each :
      (k : ℕ) (d : LaneSeat) → k < count
      → ((slice_index_or ls k d).lane ≡ k) × IsOn id about (slice_index_or ls k d).seat
      × ((slice_index_or ls k d).seat.me.0.lane ≡ first_lane k)

abbrev pub AreLanesOf : Store → ℕ → List LaneSeat → Type 0
AreLanesOf s count ls = AreLanes (store_id s) s.table.shared.key count ls

-- what a lane's seat knows, and a loader's view into which lanes were joined
abbrev pub lane_view : LaneSeat → LaneView
lane_view l = l.seat.me.0.lane

abbrev pub with_kept : List LaneView → View → View
with_kept ls v = record v { loader = record v.loader { kept = v.loader.kept ++ ls } }
