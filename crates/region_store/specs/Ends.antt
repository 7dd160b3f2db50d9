-- A store, its seats and a pin, as their callers see them.
use Rattle.std.specs.Prelude.{◌≡◌, ℕ, ◌+◌, List, ◌++◌, map, reverse}
use Rattle.atomic_table.specs.Seated.{TableId}
use Rattle.image_words.specs.Knowledge.{Knowledge}
use Rattle.region_store.specs.declared.store.Store.{Store}
use Rattle.region_store.specs.declared.lane.LaneSeat.{LaneSeat}
use Rattle.region_store.specs.declared.pinned.Pinned.{Pinned}
use Rattle.region_store.specs.declared.view.Did.{Did}
use Rattle.region_store.specs.declared.view.Did.TheVariants as did
use Rattle.region_store.specs.declared.view.Read.{Read}
use Rattle.region_store.specs.declared.view.Use.{Use}
use Rattle.region_store.specs.declared.view.Shape.{Shape}
use Rattle.region_store.specs.declared.view.View.{View}
use Rattle.region_store.specs.Uses.{uses_in, versions_in, use_held, knowledge_of}
use Rattle.region_store.specs.Store.{IsOn}

-- which store it is, its numbers, and the first image, whose names and kinds of buses all its images have
abbrev pub store_id : Store → TableId
store_id s = s.table.shared.table_id

abbrev pub shape_of : Store → Shape
shape_of s = s.table.shared.key.shape

abbrev pub first_of : Store → List ℕ
first_of s = s.table.shared.key.first.value.items

-- a lane's seat: the lane, its uses, its versions, its loads and stores
abbrev pub view_of_lane : LaneSeat → View
view_of_lane l = l.seat.me.0

abbrev pub uses_of : LaneSeat → List Use
uses_of l = uses_in (view_of_lane l).lane

abbrev pub versions_of : LaneSeat → List ℕ
versions_of l = versions_in (uses_of l)

abbrev pub steps_of : LaneSeat → List Did
steps_of l = (view_of_lane l).lane.steps

-- the seat was made with this store
abbrev pub IsLaneOf : Store → LaneSeat → Type 0
IsLaneOf s l = IsOn (store_id s) s.table.shared.key l.seat

-- a pin: its lane's uses, the last of them its own, and what is known of its image
abbrev pub view_of_pin : Pinned → View
view_of_pin p = p.seat.me.0

abbrev pub uses_of_pin : Pinned → List Use
uses_of_pin p = uses_in (view_of_pin p).lane

abbrev pub steps_of_pin : Pinned → List Did
steps_of_pin p = (view_of_pin p).lane.steps

abbrev pub use_of_pin : Pinned → Use
use_of_pin p = use_held (view_of_pin p).lane.held

abbrev pub known_of_pin : Pinned → Knowledge
known_of_pin p = knowledge_of (view_of_pin p).shape.buses (use_of_pin p)

-- the loads of these words of an image that begins at a place, the last one first
abbrev pub loads_at : ℕ → List Read → List Did
loads_at start more = map (λ (r : Read). did.Loaded (start + r.at) r.word) (reverse more)

-- words were read: the words of the last use and their loads grew, and nothing else changed
pub record Reads (p q : Pinned) : Type 0 where
  pub store : q.store ≡ p.store
  pub lane : q.lane ≡ p.lane
  pub version : q.version ≡ p.version
  pub size : q.size ≡ p.size
  pub start : q.start ≡ p.start
  pub id : q.seat.table_id ≡ p.seat.table_id
  pub shape : (view_of_pin q).shape ≡ (view_of_pin p).shape
  pub used : (view_of_pin q).lane.used ≡ (view_of_pin p).lane.used
  pub more : List Read
  pub words : use_of_pin q ≡ record (use_of_pin p) { words = more ++ (use_of_pin p).words }
  pub steps : steps_of_pin q ≡ steps_of_pin p ++ loads_at p.start more
