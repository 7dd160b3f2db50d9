-- Which lane may hold a region, by the pins that one publication loads for it. A region that was retired at an epoch
-- is free once each lane was seen without a pin, or with that of a later epoch (Fraser, Practical lock-freedom,
-- epoch-based reclamation).
use Rattle.std.specs.Prelude.{◌≡◌, ◌⊎◌, ℕ, zero, suc, ◌+◌, ◌<◌, ◌≤◌, ◌==◌, cond, List, [], ◌∷◌, ◌++◌, length, map, flat_map}
use Rattle.std.specs.Prelude.{All, Some, None}
use Rattle.region_store.specs.declared.loader.Holder.{Holder}
use Rattle.region_store.specs.declared.view.Did.{Did}
use Rattle.region_store.specs.declared.view.Did.TheVariants as did
use Rattle.region_store.specs.declared.view.LoaderView.{LoaderView}
use Rattle.region_store.specs.declared.view.View.{View}
use Rattle.region_store.specs.Layout.{pin_place}
use Rattle.region_store.specs.Steps.{retirement_of}

-- the loads of the pins of the lanes from one on, in order
unfoldable pub loads_from : ℕ → List ℕ → List Did
loads_from lane [] = []
loads_from lane (pin ∷ pins) = did.Loaded (pin_place lane) pin ∷ loads_from (lane + 1) pins

abbrev pub loads_of : List ℕ → List Did
loads_of pins = loads_from 0 pins

-- no pin, or one that announces a later epoch than the retirement's
abbrev pub IsPast : ℕ → ℕ → Type 0
IsPast epoch pin = (pin ≡ 0) ⊎ (epoch + 1 < pin)

-- These pins were loaded for the region, which was retired, and the last one is the holder's: 1 or more, and at most
-- one above the epoch of the retirement. The lanes before it do not hold the region.
pub record IsHeldBy (pins : List ℕ) (lanes : ℕ) (v : LoaderView) (h : Holder) : Type 0 where
  pub epoch : ℕ
  pub retired : retirement_of v h.region ≡ Some epoch
  pub before : List ℕ
  pub pins_are : pins ≡ before ++ h.pin ∷ []
  pub lane_is : h.lane ≡ length before
  pub lane_low : h.lane < lanes
  pub pin_low : 1 ≤ h.pin
  pub pin_high : h.pin ≤ epoch + 1
  pub passed : All (IsPast epoch) before

-- no lane holds the region: it was never published, or each lane's pin was loaded for it
pub record IsRetiredFree (region : ℕ) (pins : List ℕ) (lanes : ℕ) (v : LoaderView) : Type 0 where
  pub epoch : ℕ
  pub retired : retirement_of v region ≡ Some epoch
  pub all_lanes : length pins ≡ lanes
  pub past : All (IsPast epoch) pins

abbrev pub IsFreeBy : ℕ → List ℕ → ℕ → LoaderView → Type 0
IsFreeBy region pins lanes v =
    ((retirement_of v region ≡ None) × (pins ≡ [])) ⊎ IsRetiredFree region pins lanes v

-- the regions below a number that are not the published one, in order
unfoldable pub spare_below : ℕ → ℕ → List ℕ
spare_below zero published = []
spare_below (suc n) published = spare_below n published ++ cond (n == published) [] (n ∷ [])

-- a holder, with the pins that were loaded for its region
abbrev pub Held : Type 0
Held = Holder × List ℕ

-- one holder for each spare region below a number, in order
pub record AreHeld (v : View) (regions : ℕ) (hs : List Held) : Type 0 where
  pub regions_are : map (λ (h : Held). h.0.region) hs ≡ spare_below regions v.loader.region
  pub each : All (λ (h : Held). IsHeldBy h.1 v.shape.lanes v.loader h.0) hs

abbrev pub loads_for : List Held → List Did
loads_for hs = flat_map (λ (h : Held). loads_of h.1) hs

abbrev pub holders_in : List Held → List Holder
holders_in hs = map (λ (h : Held). h.0) hs
