-- What loads of pins leave as it was, and what they show.
use Rattle.std.proofs.Common.{◌≡◌, ◌≢◌, ℕ, zero, suc, ◌+◌, ◌*◌, ◌<◌, ◌≤◌, ◌==◌, not, Bool, true, false, true≢false, List, [], ◌∷◌, ◌++◌, length, cond, Some, inl, inr}
use Rattle.std.proofs.Common.{refl, sym, ap, ◌∙◌, arith, ⊎_elim, length-append, append_assoc, eq-eqb, ne_eqb}
use Rattle.std.proofs.lemmas.Bool.{cases_eq, cond-true, cond-false}
use Rattle.std.proofs.lemmas.List.{append-nil, map-append, length-map}
use Rattle.std.proofs.lemmas.Grind.{flat_map-append}
use Rattle.std.proofs.lemmas.Nat.{mul-le}
use native.Mathlib.Nat.{add-mul, one-mul}
use Rattle.std.proofs.lemmas.List.Elements.{All-push, All-nil}
use Rattle.epoch_core.specs.Steps.{is_past}
use Rattle.region_store.specs.declared.loader.Holder.{Holder}
use Rattle.region_store.specs.declared.view.Did.{Did}
use Rattle.region_store.specs.declared.view.Did.TheVariants as did
use Rattle.region_store.specs.declared.view.View.{View}
use Rattle.region_store.specs.Layout.{pin_place, lane_at}
use Rattle.region_store.specs.Steps.{loader_did, with_clearing, is_clear, retirement_of, IsLook}
use Rattle.region_store.specs.Holders.{loads_from, loads_of, loads_for, holders_in, Held, IsPast, IsHeldBy, IsFreeBy, AreHeld, spare_below}
use Rattle.region_store.specs.Publishing.{Looked}

pub announced : (pin e : ℕ) → not (is_past pin (Some e)) ≡ true → (1 ≤ pin) × (pin ≤ e + 1)
announced pin e h = grind arith

not_back : (b : Bool) → not b ≡ false → b ≡ true
not_back true h = refl
not_back false h = absurd (true≢false h)

-- a pin that is past
pub past_is : (pin e : ℕ) → not (is_past pin (Some e)) ≡ false → IsPast e pin
past_is pin e h = grind arith

pub looked_none : (v : View) → Looked [] v v
looked_none v = record { same = λ i. record v { loader = record v.loader { steps = sym (append-nil v.loader.steps) i } } }

pub looked_then : (a b : List Did) (u v w : View) → Looked a u v → Looked b v w → Looked (a ++ b) u w
looked_then a b u v w f g =
    let G : View → View = λ x. record x { loader = record x.loader { cleared = w.loader.cleared; steps = x.loader.steps ++ b } } in
    record { same = g.same ∙ (ap G f.same ∙ (λ i. record u { loader = record u.loader { cleared = w.loader.cleared; steps = append_assoc u.loader.steps a b i } })) }

-- the loads of one lane more
loads_push : (lane : ℕ) (pins : List ℕ) (pin : ℕ) → loads_from lane (pins ++ pin ∷ []) ≡ loads_from lane pins ++ did.Loaded (pin_place (lane + length pins)) pin ∷ []
unfolding loads_from
loads_push lane [] pin = let e : lane ≡ lane + 0 = omega arith in ap (λ l. did.Loaded (pin_place l) pin ∷ []) e
loads_push lane (p ∷ pins) pin =
    let e : (lane + 1) + length pins ≡ lane + length (p ∷ pins) = omega arith in
    ap (λ l. did.Loaded (pin_place lane) p ∷ l) (loads_push (lane + 1) pins pin ∙ ap (λ l. loads_from (lane + 1) pins ++ did.Loaded (pin_place l) pin ∷ []) e)

pub loads_length : (lane : ℕ) (pins : List ℕ) → length (loads_from lane pins) ≡ length pins
unfolding loads_from
loads_length lane [] = refl
loads_length lane (p ∷ pins) = ap (λ n. suc n) (loads_length (lane + 1) pins)

pub loads_none : loads_of [] ≡ []
unfolding loads_from
loads_none = refl

pub loads_one : (pins : List ℕ) (pin lane : ℕ) → length pins ≡ lane → loads_of (pins ++ pin ∷ []) ≡ loads_of pins ++ did.Loaded (pin_place lane) pin ∷ []
loads_one pins pin lane e = loads_push 0 pins pin ∙ ap (λ l. loads_of pins ++ did.Loaded (pin_place l) pin ∷ []) (let f : 0 + length pins ≡ lane = omega (arith, e) in f)

module _ (u w : View) (region lane word n : ℕ) (low : lane < u.shape.lanes) (place : word ≡ pin_place lane) (is : w ≡ record u { loader = loader_did (with_clearing region (lane_at word) n u.loader) (did.Loaded word n) }) where
  pub looked_one : Looked (did.Loaded (pin_place lane) n ∷ []) u w
  looked_one = record {
    same = is ∙ (λ i. record u { loader = record u.loader { cleared = sym (ap (λ (x : View). x.loader.cleared) is) i; steps = u.loader.steps ++ did.Loaded (place i) n ∷ [] } });
  }

  pub cleared_more : lane_at word ≡ lane → IsLook region (lane_at word) n u.loader → not (is_past n (retirement_of u.loader region)) ≡ false
      → ((k : ℕ) → k < lane → is_clear u.loader region k ≡ true) → (k : ℕ) → k < lane + 1 → is_clear w.loader region k ≡ true
  cleared_more back look past all k below =
      let new : (l : ℕ) → is_clear w.loader region l ≡ is_clear (with_clearing region (lane_at word) n u.loader) region l = λ l. ap (λ (x : View). is_clear x.loader region l) is in
      new k ∙ ⊎_elim
      (λ (e : k ≡ lane). ap (λ l. is_clear (with_clearing region (lane_at word) n u.loader) region l) (e ∙ sym back) ∙ look.past (not_back (is_past n (retirement_of u.loader region)) past))
      (λ (o : k ≢ lane). look.stay k (all k (omega (arith, o, below))))
      (cases_eq k lane)

-- one region more: the published one, or another
spare_suc : (n p : ℕ) → spare_below (n + 1) p ≡ spare_below n p ++ cond (n == p) [] (n ∷ [])
unfolding spare_below
spare_suc n p = let e : n + 1 ≡ suc n = omega arith in ap (λ k. spare_below k p) e

pub spare_skip : (n p : ℕ) → n ≡ p → spare_below (n + 1) p ≡ spare_below n p
spare_skip n p e = spare_suc n p ∙ (ap (λ l. spare_below n p ++ l) (cond-true (n == p) [] (n ∷ []) (eq-eqb n p e)) ∙ append-nil (spare_below n p))

pub spare_more : (n p : ℕ) → n ≢ p → spare_below (n + 1) p ≡ spare_below n p ++ n ∷ []
spare_more n p o = spare_suc n p ∙ ap (λ l. spare_below n p ++ l) (cond-false (n == p) [] (n ∷ []) (ne_eqb n p o))

pub spare_none : (p : ℕ) → spare_below 0 p ≡ []
unfolding spare_below
spare_none p = refl

pub spare_length : (n p : ℕ) → (n ≤ p → length (spare_below n p) ≡ n) × (p < n → length (spare_below n p) + 1 ≡ n)
spare_length zero p = ((λ _. ap length (spare_none p)), λ h. absurd (omega (arith, h)))
spare_length (suc n) p =
    let before = spare_length n p in
    let up : length (spare_below (suc n) p) ≡ length (spare_below (n + 1) p) = let e : suc n ≡ n + 1 = omega arith in ap (λ k. length (spare_below k p)) e in
    ⊎_elim
    (λ (e : n ≡ p).
    let same : length (spare_below (suc n) p) ≡ length (spare_below n p) = up ∙ ap length (spare_skip n p e) in
    ((λ h. absurd (omega (arith, h, e))), λ h. omega (arith, same, before.0 (omega (arith, e)))))
    (λ (o : n ≢ p).
    let more : length (spare_below (suc n) p) ≡ length (spare_below n p) + 1 = up ∙ ap length (spare_more n p o) ∙ length-append (spare_below n p) (n ∷ []) in
    ((λ h. omega (arith, more, before.0 (omega (arith, h)))), λ h. omega (arith, more, before.1 (omega (arith, h, o)))))
    (cases_eq n p)

-- the loads for one region more
pub loads_more : (a b k lanes : ℕ) → a ≤ k * lanes → b ≤ lanes → a + b ≤ (k + 1) * lanes
loads_more a b k lanes f g = omega (arith, f, g, add-mul k 1 lanes ∙ ap (λ x. k * lanes + x) (one-mul lanes))

pub loads_fit : (a k n lanes : ℕ) → a ≤ k * lanes → k ≤ n → a ≤ n * lanes
loads_fit a k n lanes f g = omega (arith, f, mul-le k lanes n lanes g (omega arith))

-- the holders of one region more
pub held_none : (v : View) → AreHeld v 0 []
held_none v = record { regions_are = sym (spare_none v.loader.region); each = All-nil (λ (h : Held). IsHeldBy h.1 v.shape.lanes v.loader h.0) }

pub held_skip : (v : View) (n : ℕ) (hs : List Held) → n ≡ v.loader.region → AreHeld v n hs → AreHeld v (n + 1) hs
held_skip v n hs e are = record { regions_are = are.regions_are ∙ sym (spare_skip n v.loader.region e); each = are.each }

pub held_more : (v : View) (n : ℕ) (hs : List Held) (h : Held) → n ≢ v.loader.region → AreHeld v n hs → h.0.region ≡ n → IsHeldBy h.1 v.shape.lanes v.loader h.0 → AreHeld v (n + 1) (hs ++ h ∷ [])
held_more v n hs h o are region is = record {
  regions_are = map-append (λ (x : Held). x.0.region) hs (h ∷ []) ∙ ((λ i. are.regions_are i ++ region i ∷ []) ∙ sym (spare_more n v.loader.region o));
  each = All-push (λ (x : Held). IsHeldBy x.1 v.shape.lanes v.loader x.0) hs h are.each is;
}

-- no more holders than regions
pub held_few : (v : View) (n : ℕ) (hs : List Held) → AreHeld v n hs → length hs ≡ length (spare_below n v.loader.region)
held_few v n hs are = sym (length-map hs (λ (x : Held). x.0.region)) ∙ ap length are.regions_are

pub loads_for_more : (hs : List Held) (h : Held) → loads_for (hs ++ h ∷ []) ≡ loads_for hs ++ loads_of h.1
loads_for_more hs h = flat_map-append (λ (x : Held). loads_of x.1) hs (h ∷ []) ∙ ap (λ l. loads_for hs ++ l) (append-nil (loads_of h.1))

pub holders_more : (hs : List Held) (h : Held) → holders_in (hs ++ h ∷ []) ≡ holders_in hs ++ h.0 ∷ []
holders_more hs h = map-append (λ (x : Held). x.0) hs (h ∷ [])

-- what is found of a region stays so where pins are loaded
module _ (more : List Did) (v u : View) (looked : Looked more v u) where
  lanes_same : u.shape.lanes ≡ v.shape.lanes
  lanes_same = ap (λ (x : View). x.shape.lanes) looked.same

  pub held_back : (pins : List ℕ) (h : Holder) → IsHeldBy pins u.shape.lanes u.loader h → IsHeldBy pins v.shape.lanes v.loader h
  held_back pins h is = record {
    epoch = is.epoch;
    retired = sym (ap (λ (x : View). retirement_of x.loader h.region) looked.same) ∙ is.retired;
    before = is.before;
    pins_are = is.pins_are;
    lane_is = is.lane_is;
    lane_low = omega (arith, is.lane_low, lanes_same);
    pin_low = is.pin_low;
    pin_high = is.pin_high;
    passed = is.passed;
  }

  pub free_back : (region : ℕ) (pins : List ℕ) → IsFreeBy region pins u.shape.lanes u.loader → IsFreeBy region pins v.shape.lanes v.loader
  free_back region pins is =
      let same : retirement_of v.loader region ≡ retirement_of u.loader region = sym (ap (λ (x : View). retirement_of x.loader region) looked.same) in
      elim is as (λ _. IsFreeBy region pins v.shape.lanes v.loader) [
        | inl never ↦ inl (same ∙ never.0, never.1)
        | inr was ↦ inr (record { epoch = was.epoch; retired = same ∙ was.retired; all_lanes = was.all_lanes ∙ lanes_same; past = was.past })
      ]
