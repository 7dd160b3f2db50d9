-- How what a lane used fits the published images.
use Rattle.std.specs.Prelude.{◌≡◌, ℕ, ◌<◌, ◌≤◌, ◌==◌, cond, List, [], ◌∷◌, ◌++◌, length, replicate, flat_map, slice_get, slice_index_or}
use Rattle.std.specs.Prelude.{option_to_list, Option, Some, None, All, AllPairs}
use Rattle.image_words.specs.Knowledge.{Knowledge}
use Rattle.region_store.specs.declared.view.Read.{Read}
use Rattle.region_store.specs.declared.view.Use.{Use}
use Rattle.region_store.specs.declared.view.LaneView.{LaneView}

-- the image of a version
abbrev pub image_at : List (List ℕ) → ℕ → List ℕ
image_at images version = slice_index_or images version []

abbrev pub IsWordOf : List ℕ → Read → Type 0
IsWordOf image r = slice_get image r.at ≡ Some r.word

-- the version was published, and the length and the words are those of its image
pub record UseFits (images : List (List ℕ)) (u : Use) : Type 0 where
  pub published : u.version < length images
  pub size : u.size ≡ length (image_at images u.version)
  pub words : All (IsWordOf (image_at images u.version)) u.words

-- each of them fits, and no version is below the one before
pub record UsesFit (images : List (List ℕ)) (us : List Use) : Type 0 where
  pub fit : All (UseFits images) us
  pub rise : AllPairs (λ a b. a.version ≤ b.version) us

-- the uses of a lane, the one that it has last
abbrev pub uses_in : LaneView → List Use
uses_in v = v.used ++ option_to_list v.held

-- its versions, each as often as lines were announced with its pin
abbrev pub versions_in : List Use → List ℕ
versions_in us = flat_map (λ (u : Use). replicate u.lines u.version) us

-- the word that was read at a place
unfoldable pub known_in : List Read → ℕ → Option ℕ
known_in [] at = None
known_in (r ∷ rs) at = cond (r.at == at) (Some r.word) (known_in rs at)

-- what is known of the image of a pin
abbrev pub knowledge_of : ℕ → Use → Knowledge
knowledge_of buses u = record { size = u.size; buses = buses; known = known_in u.words }

-- the pin that a lane has
abbrev pub no_use : Use
no_use = record { version = 0; size = 0; lines = 0; words = [] }

abbrev pub use_held : Option Use → Use
use_held None = no_use
use_held (Some u) = u
