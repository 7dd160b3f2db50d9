-- A loader, as its callers see it.
use Rattle.std.specs.Prelude.{◌≡◌, ℕ, ◌+◌, List, [], ◌∷◌, length, slice_index_or}
use Rattle.bench_model.specs.declared.database.Bench.{Bench}
use Rattle.bench_model.specs.ValidBench.{IsValidBench}
use Rattle.image_words.specs.Image.{Encodes}
use Rattle.region_store.specs.declared.store.Store.{Store}
use Rattle.region_store.specs.declared.loader.LoaderSeat.{LoaderSeat}
use Rattle.region_store.specs.Images.{IsLike}
use Rattle.region_store.specs.Ends.{shape_of, first_of}
use Rattle.region_store.specs.LoaderEnd.{IsLoaderOf, view_of_loader, images_of}
use Rattle.bench_loader.specs.declared.loader.Loader.{Loader}
use Rattle.bench_loader.specs.Due.{Limits}
use Rattle.bench_loader.specs.Commands.{LoaderState}

-- the bench of a loader, and what its seat knows
abbrev pub state_of : Loader → LoaderState
state_of l = record { bench = l.bench; view = view_of_loader l.seat }

abbrev pub limits_of : Store → Limits
limits_of s = record { room = (shape_of s).room; last = s.last }

-- the version that is published
abbrev pub version_of : LoaderSeat → ℕ
version_of seat = (view_of_loader seat).loader.version

-- the seat of a store that was made with this first image, of which no other is published
pub record IsFirst (s : Store) (image : List ℕ) (seat : LoaderSeat) : Type 0 where
  pub own : IsLoaderOf s seat
  pub first : first_of s ≡ image
  pub images : images_of seat ≡ image ∷ []
  pub version : version_of seat ≡ 0

-- The seat is one of this store, whose regions have so many words, and the bench is valid and is what the published image
-- encodes, which is the last of one image for each version; its buses have the names and kinds of those of the first image.
pub record HasPublished (s : Store) (bench : Bench) (room : ℕ) (seat : LoaderSeat) : Type 0 where
  pub own : IsLoaderOf s seat
  pub room_is : room ≡ (shape_of s).room
  pub count : length (images_of seat) ≡ version_of seat + 1
  pub valid : IsValidBench bench
  pub encodes : Encodes (slice_index_or (images_of seat) (version_of seat) []) bench
  pub like : IsLike (first_of s) (slice_index_or (images_of seat) (version_of seat) [])

-- the loader works on this store
abbrev pub IsLoaderOn : Store → Loader → Type 0
IsLoaderOn s l = HasPublished s l.bench l.room l.seat
