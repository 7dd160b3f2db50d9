-- Each step of a lane keeps the rule, and shows what it is to show.
use Rattle.std.proofs.Common.{◌≡◌, ◌≢◌, ℕ, ◌-◌, ◌<◌, ◌≤◌, min, true, List, [], ◌++◌, length, get_or, set, Some, None, All, option_map, option_to_list, slice_get}
use Rattle.std.proofs.Common.{refl, sym, ap, ◌∙◌, subst, arith, length-set, length-take, get_or-set_same, get_or-set_other}
use Rattle.std.proofs.lemmas.Option.{none-some, get_or_from_slice_get}
use Rattle.std.proofs.lemmas.List.{append-nil, get_or-take}
use Rattle.std.proofs.lemmas.List.Elements.{All-get_or, All-nil}
use mathlib.Core.Option.{none, some}
use lib.ListN.{get_elem?}
use Rattle.atomic_table.specs.Table.{State, step, keeps, Allows}
use Rattle.epoch_core.specs.declared.lane.LaneState.{LaneState}
use Rattle.epoch_core.specs.declared.lane.LaneState.TheVariants.{Idle, Loaded, Pinned, Holding}
use Rattle.epoch_core.specs.declared.step.Step.TheVariants.{L1, L2, L3, L5}
use Rattle.epoch_core.specs.Machine.{Machine, lane_state, words_of, image_of, pin_for}
use Rattle.epoch_core.specs.Steps.{after, loaded_epoch}
use Rattle.epoch_core.specs.Rule.{BeginsWith}
use Rattle.epoch_core.specs.Runs.{IsReached}
use Rattle.region_store.specs.declared.view.Did.TheVariants as did
use Rattle.region_store.specs.declared.view.Use.{Use}
use Rattle.region_store.specs.declared.view.Shape.{Shape}
use Rattle.region_store.specs.declared.view.LaneView.{LaneView}
use Rattle.region_store.specs.declared.view.View.{View}
use Rattle.region_store.specs.Layout.{published_word, epoch_word, place_of, packed, version_in, region_in, size_in}
use Rattle.region_store.specs.Images.{IsLike}
use Rattle.region_store.specs.Uses.{image_at, IsWordOf, UseFits, UsesFit, uses_in}
use Rattle.region_store.specs.Rule.{Words, LaneKnows, KeptBy, Kept}
use Rattle.region_store.specs.Steps.{Sat, lane_did, LaneLoads, LaneStores, with_epoch, saw_epoch, epoch_shown, with_pin, stored_pin, use_of, with_hold, saw_published, published_shown, at_in, region_held, with_read, with_word, saw_word, word_shown, with_none, let_go, IsReadOf}
use Rattle.region_store.specs.May.{MayLoad, MayPin, MayHold, MayRead, MayLetGo}
use Rattle.region_store.proofs.PlaceLaws.{place_back, version_back, region_back, size_back}
use Rattle.region_store.proofs.UseLaws.{uses_fit_push, uses_fit_init, uses_fit_last, use_fits_read, known_is_of, some_fits}
use Rattle.region_store.proofs.ReachedLaws.{EverySchedule, reached_rule, reached_after}
use Rattle.region_store.proofs.WordLaws.{words_loaded, pin_stored}
use Rattle.region_store.proofs.SeatLaws.{seats_after_lane}

abbrev pub Shelf : Type 0
Shelf = State (Unit {0}) View

-- a step of a lane: the words and the machine are as it says, and the seat knows its part of them
module _ (shape : Shape) (image : List ℕ) (s : Shelf) (m : Machine) (r : KeptBy shape image s m) (id : ℕ) (v : View) (at : get_elem? s.views id ≡ some v) (may : v.is_lane ≡ true) where
  abbrev pub mine : LaneKnows m r.made v.lane
  mine = ((r.each_seat id v at).as_lane may).2

  pub lane_there : v.lane.lane < length m.lanes
  lane_there = omega (arith, mine.low, r.made_low, r.lanes_are)

  pub lane_kept : (pins : List ℕ) (lanes : List LaneState) (ws : List ℕ) (w : LaneView) → IsReached (record m { pins = pins; lanes = lanes })
      → Words shape.room ws (record m { pins = pins; lanes = lanes }) → length lanes ≡ length m.lanes
      → ((l : ℕ) → l ≢ v.lane.lane → get_or lanes l Idle ≡ get_or m.lanes l Idle) → w.lane ≡ v.lane.lane → LaneKnows (record m { pins = pins; lanes = lanes }) r.made w
      → KeptBy shape image (record { words = ws; homes = s.homes; views = set s.views id (record v { lane = w }) }) (record m { pins = pins; lanes = lanes })
  lane_kept pins lanes ws w reached words count others same knows = record {
    within = r.within;
    reached = reached;
    regions_are = r.regions_are;
    lanes_are = count ∙ r.lanes_are;
    words = words;
    good = r.good;
    buses_are = r.buses_are;
    made = r.made;
    made_low = r.made_low;
    unmade = λ l high. others l (λ e. omega (arith, e, high, mine.low)) ∙ r.unmade l high;
    loader = r.loader;
    seat_of = r.seat_of;
    each_seat = seats_after_lane shape m r.made r.loader r.seat_of s.views r.each_seat pins lanes id v w at may same knows others;
  }

-- the image that a region begins with is no longer than the region
begins_short : (words image : List ℕ) → BeginsWith words image → length image ≤ length words
begins_short words image begins =
    let e : length image ≡ min (length image) (length words) = sym (ap length begins) ∙ length-take (length image) words in
    omega (arith, e)

begins_at : (words image : List ℕ) (at : ℕ) → BeginsWith words image → at < length image → get_or image at 0 ≡ get_or words at 0
begins_at words image at begins below = ap (λ l. get_or l at 0) (sym begins) ∙ get_or-take (length image) words at 0 below

abbrev version_held : LaneState → ℕ
version_held Idle = 0
version_held (Loaded epoch) = 0
version_held (Pinned epoch) = 0
version_held (Holding epoch version region) = version

slice_same : (xs : List ℕ) (i a b : ℕ) → slice_get xs i ≡ Some a → b ≡ get_or xs i 0 → a ≡ b
slice_same xs i a b found is = sym (get_or_from_slice_get xs i a 0 found) ∙ sym is

-- the uses of a lane that has no pin
used_fit : (images : List (List ℕ)) (v : LaneView) → v.held ≡ None → UsesFit images (uses_in v) → UsesFit images v.used
used_fit images v no_held fit = subst (UsesFit images) (ap (λ h. v.used ++ option_to_list h) no_held ∙ append-nil v.used) fit

module _ (law : EverySchedule) (shape : Shape) (image : List ℕ) where
  pub sees_epoch : (slots id : ℕ) (me : Sat) → MayLoad me.0
      → Allows (Kept shape image) slots id me epoch_word (λ (n : ℕ). n) (LaneLoads saw_epoch epoch_shown (step slots epoch_word 0 0 none) me)
  sees_epoch slots id me may s kept deep at below =
      let m : Machine = kept.m in
      let r : KeptBy shape image s m = kept.by in
      let v : View = me.0 in
      let k = mine shape image s m r id v at may.may in
      let there = lane_there shape image s m r id v at may.may in
      let lane : ℕ = v.lane.lane in
      let n : ℕ = get_or s.words epoch_word 0 in
      let is : n ≡ m.epoch = r.words.epoch_is in
      let lanes : List LaneState = set m.lanes lane (Loaded m.epoch) in
      let w : LaneView = lane_did (with_epoch n v.lane) (did.Loaded epoch_word n) in
      let rule = reached_rule law m r.reached in
      let known : LaneKnows (record m { lanes = lanes }) r.made w = record {
        low = k.low;
        state_is = get_or-set_same m.lanes lane (Loaded m.epoch) Idle there ∙ ap (λ e. Loaded e) (sym is);
        uses = k.uses;
        held_is = λ u held. absurd (none-some u (sym may.none ∙ held));
      } in (
        record v { lane = w },
        keeps,
        tt,
        record {
          m = after m (L1 lane);
          by = lane_kept shape image s m r id v at may.may m.pins lanes (set s.words epoch_word n) w (reached_after m (L1 lane) r.reached (there, k.state_is ∙ may.idle))
              (words_loaded shape.room s.words m r.words epoch_word lanes (length-set m.lanes lane (Loaded m.epoch))) (length-set m.lanes lane (Loaded m.epoch))
              (λ l other. get_or-set_other m.lanes lane l (Loaded m.epoch) Idle other) refl known;
        },
        (refl, refl, omega (arith, is, rule.epoch.0, rule.well_formed.version)),
      )

  pub stores_pin : (slots id word n epoch : ℕ) (me : Sat) → MayPin word n epoch me.0
      → Allows (Kept shape image) slots id me word (λ _. n) (λ _. LaneStores stored_pin (step slots word n 0 none) me n)
  stores_pin slots id word n epoch me may s kept deep at below =
      let m : Machine = kept.m in
      let r : KeptBy shape image s m = kept.by in
      let v : View = me.0 in
      let k = mine shape image s m r id v at may.may in
      let there = lane_there shape image s m r id v at may.may in
      let lane : ℕ = v.lane.lane in
      let state : lane_state m lane ≡ Loaded epoch = k.state_is ∙ may.loaded in
      let e : ℕ = loaded_epoch (lane_state m lane) in
      let same : e ≡ loaded_epoch v.lane.state = ap loaded_epoch k.state_is in
      let now : pin_for e ≡ n = ap pin_for (ap loaded_epoch state) ∙ sym may.pin in
      let pins : List ℕ = set m.pins lane (pin_for e) in
      let lanes : List LaneState = set m.lanes lane (Pinned e) in
      let w : LaneView = lane_did (with_pin v.lane) (did.Stored word n) in
      let rule = reached_rule law m r.reached in
      let count : length lanes ≡ length m.lanes = length-set m.lanes lane (Pinned e) in
      let known : LaneKnows (record m { pins = pins; lanes = lanes }) r.made w = record {
        low = k.low;
        state_is = get_or-set_same m.lanes lane (Pinned e) Idle there ∙ ap (λ x. Pinned x) same;
        uses = k.uses;
        held_is = λ u held. absurd (none-some u (sym may.none ∙ held));
      } in
      let few : lane < 16 = omega (arith, there, r.lanes_are, r.within.few_lanes) in
      let words = pin_stored shape.room s.words m r.words lane (pin_for e) lanes (omega (arith, there, rule.well_formed.pins)) few count in
      let words' : Words shape.room (set s.words word n) (record m { pins = pins; lanes = lanes }) =
      subst (λ (p : ℕ × ℕ). Words shape.room (set s.words p.0 p.1) (record m { pins = pins; lanes = lanes })) (λ i. (sym may.place i, now i)) words in (
        record v { lane = w },
        keeps,
        tt,
        record {
          m = after m (L2 lane);
          by = lane_kept shape image s m r id v at may.may pins lanes (set s.words word n) w (reached_after m (L2 lane) r.reached (epoch, state))
              words' count (λ l other. get_or-set_other m.lanes lane l (Pinned e) Idle other) refl known;
        },
        (refl, refl),
      )

  pub lets_go : (slots id word epoch version region : ℕ) (me : Sat) → MayLetGo word epoch version region me.0
      → Allows (Kept shape image) slots id me word (λ _. 0) (λ _. LaneStores let_go (step slots word 0 0 none) me 0)
  lets_go slots id word epoch version region me may s kept deep at below =
      let m : Machine = kept.m in
      let r : KeptBy shape image s m = kept.by in
      let v : View = me.0 in
      let k = mine shape image s m r id v at may.may in
      let there = lane_there shape image s m r id v at may.may in
      let lane : ℕ = v.lane.lane in
      let pins : List ℕ = set m.pins lane 0 in
      let lanes : List LaneState = set m.lanes lane Idle in
      let w : LaneView = lane_did (with_none v.lane) (did.Stored word 0) in
      let rule = reached_rule law m r.reached in
      let count : length lanes ≡ length m.lanes = length-set m.lanes lane Idle in
      let known : LaneKnows (record m { pins = pins; lanes = lanes }) r.made w = record {
        low = k.low;
        state_is = get_or-set_same m.lanes lane Idle Idle there;
        uses = subst (UsesFit m.images) (sym (append-nil (uses_in v.lane))) k.uses;
        held_is = λ u held. absurd (none-some u held);
      } in
      let few : lane < 16 = omega (arith, there, r.lanes_are, r.within.few_lanes) in
      let words = pin_stored shape.room s.words m r.words lane 0 lanes (omega (arith, there, rule.well_formed.pins)) few count in
      let words' : Words shape.room (set s.words word 0) (record m { pins = pins; lanes = lanes }) =
      subst (λ (p : ℕ). Words shape.room (set s.words p 0) (record m { pins = pins; lanes = lanes })) (sym may.place) words in (
        record v { lane = w },
        keeps,
        tt,
        record {
          m = after m (L5 lane);
          by = lane_kept shape image s m r id v at may.may pins lanes (set s.words word 0) w (reached_after m (L5 lane) r.reached (epoch, (version, (region, k.state_is ∙ may.holds))))
              words' count (λ l other. get_or-set_other m.lanes lane l Idle Idle other) refl known;
        },
        (refl, refl),
      )

  pub sees_published : (lines slots id epoch : ℕ) (me : Sat) → MayHold epoch me.0
      → Allows (Kept shape image) slots id me published_word (λ (n : ℕ). n) (LaneLoads (saw_published lines) (published_shown lines) (step slots published_word 0 0 none) me)
  sees_published lines slots id epoch me may s kept deep at below =
      let m : Machine = kept.m in
      let r : KeptBy shape image s m = kept.by in
      let v : View = me.0 in
      let k = mine shape image s m r id v at may.may in
      let its = (r.each_seat id v at).as_lane may.may in
      let there = lane_there shape image s m r id v at may.may in
      let lane : ℕ = v.lane.lane in
      let n : ℕ = get_or s.words published_word 0 in
      let rule = reached_rule law m r.reached in
      let last : List ℕ = image_of m m.version in
      let is : n ≡ packed m.version m.region (length last) = r.words.published_is in
      let region : m.region < 256 = omega (arith, rule.well_formed.published, r.regions_are, r.within.few_regions) in
      let short : length last ≤ shape.room = omega (arith, begins_short (words_of m m.region) last rule.published.1, r.words.short m.region) in
      let size : length last < 16777216 = omega (arith, short, r.within.small_room) in
      let version_is : version_in n ≡ m.version = ap version_in is ∙ version_back m.version m.region (length last) region size in
      let region_is : region_in n ≡ m.region = ap region_in is ∙ region_back m.version m.region (length last) region size in
      let size_is : size_in n ≡ length last = ap size_in is ∙ size_back m.version m.region (length last) region size in
      let e : ℕ = loaded_epoch (lane_state m lane) in
      let same : e ≡ loaded_epoch v.lane.state = ap loaded_epoch k.state_is in
      let new : LaneState = Holding e m.version m.region in
      let lanes : List LaneState = set m.lanes lane new in
      let u : Use = use_of lines n in
      let w : LaneView = lane_did (with_hold lines n v.lane) (did.Loaded published_word n) in
      let used = used_fit m.images v.lane may.none k.uses in
      let fit : UseFits m.images u = record {
        published = omega (arith, version_is, rule.published.0);
        size = size_is ∙ ap (λ x. length (image_at m.images x)) (sym version_is);
        words = All-nil (IsWordOf (image_at m.images u.version));
      } in
      let newest : All (λ x. x.version ≤ version_in n) v.lane.used = λ i d low. omega (arith, (used.fit i d low).published, version_is, rule.published.0) in
      let known : LaneKnows (record m { lanes = lanes }) r.made w = record {
        low = k.low;
        state_is = get_or-set_same m.lanes lane new Idle there ∙ (λ i. Holding (same i) (sym version_is i) (sym region_is i));
        uses = uses_fit_push m.images v.lane.used u used fit newest;
        held_is = λ x held. let e : u ≡ x = cc held in (loaded_epoch v.lane.state, (region_in n, ap (λ (y : Use). Holding (loaded_epoch v.lane.state) y.version (region_in n)) e));
      } in
      let like : IsLike image (image_at m.images u.version) = All-get_or (IsLike image) m.images u.version [] (omega (arith, fit.published)) r.good in
      let buses : v.shape.buses ≡ get_or image 1 0 = ap (λ (x : Shape). x.buses) its.1 ∙ r.buses_are in (
        record v { lane = w },
        keeps,
        tt,
        record {
          m = after m (L3 lane);
          by = lane_kept shape image s m r id v at may.may m.pins lanes (set s.words published_word n) w (reached_after m (L3 lane) r.reached (epoch, k.state_is ∙ may.pinned))
              (words_loaded shape.room s.words m r.words published_word lanes (length-set m.lanes lane new)) (length-set m.lanes lane new)
              (λ l other. get_or-set_other m.lanes lane l new Idle other) refl known;
        },
        (
          refl,
          refl,
          record {
            newest = newest;
            small = omega (arith, version_is, rule.well_formed.version);
            region = omega (arith, region_is, rule.well_formed.published, r.regions_are, ap (λ (x : Shape). x.regions) its.1);
            room = omega (arith, size_is, short, ap (λ (x : Shape). x.room) its.1);
            fits = some_fits image m.images u v.shape.buses buses like fit;
          },
        ),
      )

  pub sees_word : (slots id word a epoch version region : ℕ) (u : Use) (me : Sat) → MayRead word a epoch version region u me.0
      → Allows (Kept shape image) slots id me word (λ (n : ℕ). n) (LaneLoads saw_word word_shown (step slots word 0 0 none) me)
  sees_word slots id word a epoch version region u me may s kept deep at below =
      let m : Machine = kept.m in
      let r : KeptBy shape image s m = kept.by in
      let v : View = me.0 in
      let k = mine shape image s m r id v at may.may in
      let its = (r.each_seat id v at).as_lane may.may in
      let lane : ℕ = v.lane.lane in
      let n : ℕ = get_or s.words word 0 in
      let rule = reached_rule law m r.reached in
      let holds : lane_state m lane ≡ Holding epoch version region = k.state_is ∙ may.holds in
      let safe = rule.held lane epoch version region holds in
      let pin = k.held_is u may.held in
      let of : u.version ≡ version = ap (λ (x : LaneState). version_held x) (sym pin.1.1 ∙ may.holds) in
      let whole : List ℕ = image_of m version in
      let all = subst (λ h. UsesFit m.images (v.lane.used ++ option_to_list h)) may.held k.uses in
      let parts = uses_fit_init m.images v.lane.used u all in
      let fit : UseFits m.images u = parts.2 in
      let inside : a < length whole = omega (arith, may.within, fit.size, ap (λ x. length (image_at m.images x)) of) in
      let room : v.shape.room ≡ shape.room = ap (λ (x : Shape). x.room) its.1 in
      let place : word ≡ place_of shape.room region a = may.place ∙ ap (λ x. place_of x region a) room in
      let deep_in : a < length (words_of m region) = omega (arith, inside, begins_short (words_of m region) whole safe.2) in
      let is : n ≡ get_or (image_at m.images u.version) a 0 =
      ap (λ x. get_or s.words x 0) place ∙ (r.words.regions_are region a safe.1 deep_in ∙ (sym (begins_at (words_of m region) whole a safe.2 inside) ∙ ap (λ x. get_or (image_at m.images x) a 0) (sym of))) in
      let back : at_in v word ≡ a = ap (λ x. word - place_of v.shape.room (region_held x) 0) may.holds ∙ (ap (λ x. x - place_of v.shape.room region 0) may.place ∙ place_back v.shape.room region a) in
      let b : ℕ = at_in v word in
      let read : UseFits m.images (with_read b n u) = use_fits_read m.images u b n fit (omega (arith, back, may.within)) (is ∙ ap (λ x. get_or (image_at m.images u.version) x 0) (sym back)) in
      let w : LaneView = lane_did (with_word b n v.lane) (did.Loaded word n) in
      let held_now : w.held ≡ Some (with_read b n u) = ap (option_map (with_read b n)) may.held in
      let known : LaneKnows m r.made w = record {
        low = k.low;
        state_is = k.state_is;
        uses = subst (λ h. UsesFit m.images (v.lane.used ++ option_to_list h)) (sym held_now) (uses_fit_last m.images v.lane.used u (with_read b n u) all read refl);
        held_is = λ x held. let e : with_read b n u ≡ x = cc (sym held_now ∙ held) in (pin.0, (pin.1.0, pin.1.1 ∙ ap (λ (y : Use). Holding pin.0 y.version pin.1.0) e));
      } in
      let like : IsLike image (image_at m.images u.version) = All-get_or (IsLike image) m.images u.version [] fit.published r.good in
      let buses : v.shape.buses ≡ get_or image 1 0 = ap (λ (x : Shape). x.buses) its.1 ∙ r.buses_are in (
        record v { lane = w },
        keeps,
        tt,
        record {
          m = m;
          by = lane_kept shape image s m r id v at may.may m.pins m.lanes (set s.words word n) w r.reached (words_loaded shape.room s.words m r.words word m.lanes refl) refl
              (λ l other. refl) refl known;
        },
        (
          refl,
          refl,
          λ x held.
              let e : u ≡ x = cc (sym may.held ∙ held) in
              subst (λ (y : Use). IsReadOf b n v.shape.buses y) e record {
                same = λ o seen. let got = known_is_of (image_at m.images u.version) u.words fit.words b o seen in slice_same (image_at m.images u.version) b o n got (is ∙ ap (λ y. get_or (image_at m.images u.version) y 0) (sym back));
                fits = some_fits image m.images (with_read b n u) v.shape.buses buses like read;
              },
        ),
      )
