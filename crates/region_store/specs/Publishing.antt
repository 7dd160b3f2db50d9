-- What a publication does, and when it is refused.
use Rattle.std.specs.Prelude.{◌≡◌, ◌≢◌, ℕ, zero, suc, ◌+◌, ◌-◌, ◌*◌, ◌<◌, ◌≤◌, List, [], ◌∷◌, ◌++◌, length, slice_index, slice_set}
use Rattle.std.specs.Prelude.{Some, None, Result, Ok, Err}
use Rattle.region_store.specs.declared.loader.Holder.{Holder}
use Rattle.region_store.specs.declared.loader.PublishRefused.{PublishRefused}
use Rattle.region_store.specs.declared.loader.PublishRefused.TheVariants.{VersionsSpent, Busy}
use Rattle.region_store.specs.declared.loader.LoaderSeat.{LoaderSeat}
use Rattle.region_store.specs.declared.view.Did.{Did}
use Rattle.region_store.specs.declared.view.Did.TheVariants as did
use Rattle.region_store.specs.declared.view.View.{View}
use Rattle.region_store.specs.Layout.{place_of, published_word, epoch_word, packed}
use Rattle.region_store.specs.Holders.{loads_of, loads_for, holders_in, Held, AreHeld, IsFreeBy}
use Rattle.region_store.specs.LoaderEnd.{view_of_loader}

-- these loads were made, and else only which lanes are cleared changed
pub record Looked (more : List Did) (v w : View) : Type 0 where
  pub same : w ≡ record v { loader = record v.loader { cleared = w.loader.cleared; steps = v.loader.steps ++ more } }

-- no more loads than the spare regions have lanes
abbrev pub AreFew : List Did → View → Type 0
AreFew more v = length more ≤ (v.shape.regions - 1) * v.shape.lanes

-- the stores of the first words of an image, from a place on
unfoldable pub stores_of : ℕ → List ℕ → ℕ → List Did
stores_of start image zero = []
stores_of start image (suc n) = stores_of start image n ++ did.Stored (start + n) (slice_index image n) ∷ []

-- the stores of a publication: each word of the image in order, the published word, the epoch
abbrev pub publishing : ℕ → List ℕ → View → List Did
publishing region image v =
    stores_of (place_of v.shape.room region 0) image (length image)
    ++ (did.Stored published_word (packed (v.loader.version + 1) region (length image))
    ∷ did.Stored epoch_word (v.loader.version + 1) ∷ [])

-- what the loader knows then: one image more, in this region, the region before is retired, and these steps were made
abbrev pub published : ℕ → List ℕ → List Did → View → View → View
published region image more v w = record v {
  loader = record v.loader {
    images = v.loader.images ++ image ∷ [];
    version = v.loader.version + 1;
    epoch = v.loader.version + 1;
    region = region;
    retired = slice_set (slice_set v.loader.retired v.loader.region (Some v.loader.version)) region None;
    cleared = w.loader.cleared;
    steps = v.loader.steps ++ more;
  };
}

-- The image is published in the first spare region that no lane holds: each spare region before it has a holder.
pub record IsPublished (image : List ℕ) (version : ℕ) (v w : View) : Type 0 where
  pub next : version ≡ v.loader.version + 1
  pub region : ℕ
  pub there : region < v.shape.regions
  pub spare : region ≢ v.loader.region
  pub held : List Held
  pub are_held : AreHeld v region held
  pub pins : List ℕ
  pub free : IsFreeBy region pins v.shape.lanes v.loader
  pub few : AreFew (loads_for held ++ loads_of pins) v
  pub view : w ≡ published region image ((loads_for held ++ loads_of pins) ++ publishing region image v) v w

-- Each spare region has a holder, and but for loads of pins nothing was done.
pub record IsBusy (hs : List Holder) (v w : View) : Type 0 where
  pub held : List Held
  pub are_held : AreHeld v v.shape.regions held
  pub holders_are : hs ≡ holders_in held
  pub few : AreFew (loads_for held) v
  pub looked : Looked (loads_for held) v w

-- The answer of a publication, where no version above the last one is published.
abbrev pub Publishes : ℕ → List ℕ → LoaderSeat → LoaderSeat → Result ℕ PublishRefused → Type 0
Publishes last image l m (Ok version) =
    (l.version ≢ last) × IsPublished image version (view_of_loader l) (view_of_loader m) × (m.version ≡ version)
Publishes last image l m (Err VersionsSpent) = (l.version ≡ last) × (m ≡ l)
Publishes last image l m (Err (Busy hs)) =
    (l.version ≢ last) × IsBusy hs.each.items (view_of_loader l) (view_of_loader m) × (m.version ≡ l.version)
