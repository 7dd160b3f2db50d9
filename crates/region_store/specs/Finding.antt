-- What is found of the regions before an image is written, and what was written of it so far.
use Rattle.std.specs.Prelude.{◌≡◌, ◌≢◌, ℕ, ◌+◌, ◌<◌, ◌≤◌, ◌==◌, cond, List, [], ◌∷◌, ◌++◌, length, take, replicate, slice_set, false}
use Rattle.std.specs.Prelude.{Option, Some, None, Result, Ok, Err}
use Rattle.region_store.specs.declared.loader.Holder.{Holder}
use Rattle.region_store.specs.declared.loader.Holders.{Holders}
use Rattle.region_store.specs.declared.view.View.{View}
use Rattle.region_store.specs.Layout.{place_of}
use Rattle.region_store.specs.May.{IsFree}
use Rattle.region_store.specs.Holders.{loads_of, loads_for, holders_in, Held, AreHeld, IsHeldBy, IsFreeBy}
use Rattle.region_store.specs.Publishing.{Looked, AreFew, stores_of, publishing}

-- a region that no lane can hold
pub record IsFound (v : View) (region : ℕ) : Type 0 where
  pub there : region < v.shape.regions
  pub spare : region ≢ v.loader.region
  pub free : IsFree region v

-- what was found of one region: no lane can hold it, or this one may
abbrev pub AnswerAt : ℕ → List ℕ → View → View → Option Holder → Type 0
AnswerAt region pins v w None = IsFreeBy region pins v.shape.lanes v.loader × IsFree region w
AnswerAt region pins v w (Some h) = (h.region ≡ region) × IsHeldBy pins v.shape.lanes v.loader h

pub record FoundAt (region : ℕ) (v w : View) (result : Option Holder) : Type 0 where
  pub pins : List ℕ
  pub few : length pins ≤ v.shape.lanes
  pub looked : Looked (loads_of pins) v w
  pub answer : AnswerAt region pins v w result

-- and of all but the published one: the first that no lane can hold, or a lane for each
pub record IsFirstFree (region : ℕ) (held : List Held) (v w : View) : Type 0 where
  pub found : IsFound w region
  pub are_held : AreHeld v region held
  pub pins : List ℕ
  pub free : IsFreeBy region pins v.shape.lanes v.loader
  pub few : AreFew (loads_for held ++ loads_of pins) v
  pub looked : Looked (loads_for held ++ loads_of pins) v w

pub record AreAllHeld (hs : List Holder) (held : List Held) (v w : View) : Type 0 where
  pub holders_are : hs ≡ holders_in held
  pub are_held : AreHeld v v.shape.regions held
  pub few : AreFew (loads_for held) v
  pub looked : Looked (loads_for held) v w

abbrev pub FoundRegion : View → View → Result ℕ Holders → Type 0
FoundRegion v w (Ok region) = (held : List Held) × IsFirstFree region held v w
FoundRegion v w (Err hs) = (held : List Held) × AreAllHeld hs.each.items held v w

-- the loader has stored the first words of an image into a region
abbrev pub written : ℕ → List ℕ → ℕ → View → View
written region image n v = record v {
  loader = record v.loader {
    writing = cond (n == 0) None (Some region);
    draft = take n image;
    steps = v.loader.steps ++ stores_of (place_of v.shape.room region 0) image n;
  };
}

-- and has published it there
abbrev pub written_out : ℕ → List ℕ → View → View
written_out region image v = record v {
  loader = record v.loader {
    images = v.loader.images ++ image ∷ [];
    draft = [];
    writing = None;
    epoch = v.loader.epoch + 1;
    version = v.loader.version + 1;
    region = region;
    retired = slice_set (slice_set v.loader.retired v.loader.region (Some v.loader.epoch)) region None;
    cleared = slice_set v.loader.cleared region (replicate v.shape.lanes false);
    steps = v.loader.steps ++ publishing region image v;
  };
}
