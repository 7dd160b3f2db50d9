-- Each step of the loader keeps the rule.
use Rattle.std.proofs.Common.{◌≡◌, ◌≢◌, ◌⊎◌, ℕ, ◌+◌, ◌-◌, ◌<◌, ◌≤◌, ◌||◌, min, Bool, true, false, true≢false, List, [], ◌∷◌, ◌++◌, length, get_or, set, take, replicate, Option, Some, None, All}
use Rattle.std.proofs.Common.{refl, sym, ap, ◌∙◌, subst, arith, inl, inr, ⊎_elim, length-set, length-take, length-append, get_or-set_same, get_or-set_other, eq-eqb, ne_eqb, if◌then◌else◌}
use Rattle.std.proofs.lemmas.Bool.{cases_eq}
use Rattle.std.proofs.lemmas.Option.{none-some}
use Rattle.std.proofs.lemmas.List.{append-nil, get_or_push, get_or_default, take_all, take_more_set}
use Rattle.std.proofs.lemmas.List.Elements.{All-get_or, All-push}
use mathlib.Core.Option.{none, some}
use lib.ListN.{get_elem?}
use Rattle.atomic_table.specs.Table.{step, keeps, Allows}
use Rattle.epoch_core.specs.declared.lane.LaneState.TheVariants.{Idle}
use Rattle.epoch_core.specs.declared.step.Step.TheVariants.{W1, W2, W3, W4}
use Rattle.epoch_core.specs.Machine.{Machine, words_of, image_of, retirement, clearings, pin_of}
use Rattle.epoch_core.specs.Steps.{after, stored, is_past, EveryLaneIsCleared, NoOtherIsWritten}
use Rattle.epoch_core.specs.Rule.{RegionRule, BeginsWith, IsSpare}
use Rattle.epoch_core.specs.Runs.{IsReached}
use Rattle.region_store.specs.declared.view.Did.TheVariants as did
use Rattle.region_store.specs.declared.view.Shape.{Shape}
use Rattle.region_store.specs.declared.view.LoaderView.{LoaderView}
use Rattle.region_store.specs.declared.view.View.{View}
use Rattle.region_store.specs.Layout.{published_word, epoch_word, lane_at, place_of, packed, region_in}
use Rattle.region_store.specs.Images.{IsLike}
use Rattle.region_store.specs.Rule.{Words, LoaderKnows, KeptBy, Kept}
use Rattle.region_store.specs.Steps.{Sat, loader_did, LoaderLoads, LoaderStores, with_written, stored_word, with_published, stored_published, with_next, stored_epoch, with_clearing, saw_pin, pin_shown, is_clear, row_of, retirement_of, IsLook}
use Rattle.region_store.specs.May.{MayWrite, MayPublish, MayFollow, MayLook, IsFree}
use Rattle.region_store.proofs.PlaceLaws.{place_low, lane_back, region_back}
use Rattle.region_store.proofs.ReachedLaws.{EverySchedule, reached_rule, reached_after}
use Rattle.region_store.proofs.WordLaws.{words_looked, epoch_stored, published_stored, word_stored}
use Rattle.region_store.proofs.SeatLaws.{seats_after_loader, kept_longer}
use Rattle.region_store.proofs.LaneLaws.{Shelf}

module _ (shape : Shape) (image : List ℕ) (s : Shelf) (m : Machine) (r : KeptBy shape image s m) (id : ℕ) (v : View) (at : get_elem? s.views id ≡ some v) (may : v.is_loader ≡ true) where
  abbrev pub own : LoaderKnows m r.made v.loader
  own = ((r.each_seat id v at).as_loader may).2

  pub loader_kept : (m' : Machine) (more : List (List ℕ)) (ws : List ℕ) (w : LoaderView) → m'.lanes ≡ m.lanes → m'.images ≡ m.images ++ more → IsReached m'
      → length m'.regions ≡ length m.regions → Words shape.room ws m' → All (IsLike image) m'.images → LoaderKnows m' r.made w
      → KeptBy shape image (record { words = ws; homes = s.homes; views = set s.views id (record v { loader = w }) }) m'
  loader_kept m' more ws w lanes longer reached regions words good knows = record {
    within = r.within;
    reached = reached;
    regions_are = regions ∙ r.regions_are;
    lanes_are = ap length lanes ∙ r.lanes_are;
    words = words;
    good = good;
    buses_are = r.buses_are;
    made = r.made;
    made_low = r.made_low;
    unmade = λ l high. ap (λ ls. get_or ls l Idle) lanes ∙ r.unmade l high;
    loader = r.loader;
    seat_of = r.seat_of;
    each_seat = seats_after_loader shape m r.made r.loader r.seat_of s.views r.each_seat m' more (λ l. ap (λ ls. get_or ls l Idle) lanes) longer id v w at may knows;
  }

  -- what is free by what the loader knows has every lane cleared
  pub free_is_cleared : RegionRule m → (region : ℕ) → region < shape.regions → region ≢ v.loader.region → v.shape ≡ shape → IsFree region v → EveryLaneIsCleared m region
  free_is_cleared rule region there spare same free =
      let k = own in
      let inside : region < length m.regions = omega (arith, there, r.regions_are) in
      ⊎_elim
      (λ (never : get_or v.loader.retired region None ≡ None).
      let now : retirement m region ≡ None = ap (λ l. get_or l region None) (sym k.retired_is) ∙ never in
      subst (λ (o : Option ℕ). IsSpare m region o) now (rule.spare region inside (λ e. spare (e ∙ sym k.region_is))))
      (λ (all : (lane : ℕ) → lane < v.shape.lanes → is_clear v.loader region lane ≡ true).
      λ i d low.
      let row : List Bool = clearings m region in
      let size : length row ≡ length m.lanes = All-get_or (λ x. length x ≡ length m.lanes) m.cleared region [] (omega (arith, inside, rule.well_formed.cleared)) rule.well_formed.by_lane in
      let here : i < v.shape.lanes = omega (arith, low, size, r.lanes_are, ap (λ (x : Shape). x.lanes) same) in
      let is : get_or row i false ≡ true = ap (λ c. get_or (get_or c region []) i false) (sym k.cleared_is) ∙ all i here in
      get_or_default row i d false low ∙ is)
      free

-- nothing is a prefix of each list
empty_begins : (words draft : List ℕ) → length draft ≡ 0 → take (length draft) words ≡ draft
empty_begins words [] e = refl
empty_begins words (x ∷ xs) e = absurd (omega (arith, e))

-- a region that begins with a draft begins with one word more once that is stored behind it
stored_begins : (words draft : List ℕ) (n : ℕ) → length draft ≤ length words → BeginsWith words draft → BeginsWith (stored words (length draft) n) (draft ++ n ∷ [])
stored_begins words draft n low begins =
    let a : ℕ = length draft in
    let count : length (draft ++ n ∷ []) ≡ a + 1 = length-append draft (n ∷ []) in
    ⊎_elim
    (λ (e : a ≡ length words).
    let is : stored words a n ≡ words ++ n ∷ [] = ap (λ b. if b then words ++ n ∷ [] else set words a n) (eq-eqb a (length words) e) in
    let whole : words ≡ draft = sym (take_all a words (omega (arith, e))) ∙ begins in
    ap (take (length (draft ++ n ∷ []))) (is ∙ ap (λ l. l ++ n ∷ []) whole) ∙ take_all (length (draft ++ n ∷ [])) (draft ++ n ∷ []) (omega arith))
    (λ (o : a ≢ length words).
    let is : stored words a n ≡ set words a n = ap (λ b. if b then words ++ n ∷ [] else set words a n) (ne_eqb a (length words) o) in
    (λ i. take (count i) (is i)) ∙ (take_more_set words a n (omega (arith, o, low)) ∙ ap (λ l. l ++ n ∷ []) begins))
    (cases_eq a (length words))

some_within : (xs : List (Option ℕ)) (i x : ℕ) → get_or xs i None ≡ Some x → i < length xs
some_within [] i x e = absurd (none-some x e)
some_within (y ∷ ys) Rattle.std.proofs.Common.zero x e = omega arith
some_within (y ∷ ys) (Rattle.std.proofs.Common.suc i) x e = omega (arith, some_within ys i x e)

or_right : (a b : Bool) → b ≡ true → (a || b) ≡ true
or_right true b e = refl
or_right false b e = e

or_left : (a b : Bool) → a ≡ true → (a || b) ≡ true
or_left true b e = refl
or_left false b e = absurd (true≢false (sym e))

-- what a pin that is loaded clears
looks : (v : LoaderView) (region lane n : ℕ) → region < length v.cleared → lane < length (row_of v region) → IsLook region lane n v
looks v region lane n there low =
    let row : List Bool = row_of v region in
    let now : Bool = is_clear v region lane || is_past n (retirement_of v region) in
    let new : get_or (set v.cleared region (set row lane now)) region [] ≡ set row lane now = get_or-set_same v.cleared region (set row lane now) [] there in
    record {
      past = λ e. ap (λ x. get_or x lane false) new ∙ (get_or-set_same row lane now false low ∙ or_right (is_clear v region lane) (is_past n (retirement_of v region)) e);
      stay = λ l e. ap (λ x. get_or x l false) new ∙ ⊎_elim
          (λ (s : l ≡ lane). ap (λ k. get_or (set row lane now) k false) s ∙ (get_or-set_same row lane now false low
          ∙ or_left (is_clear v region lane) (is_past n (retirement_of v region)) (ap (λ k. is_clear v region k) (sym s) ∙ e)))
          (λ (o : l ≢ lane). get_or-set_other row lane l now false o ∙ e)
          (cases_eq l lane);
    }

module _ (law : EverySchedule) (shape : Shape) (image : List ℕ) where
  pub stores_epoch : (slots id n : ℕ) (me : Sat) → MayFollow n me.0
      → Allows (Kept shape image) slots id me epoch_word (λ _. n) (λ _. LoaderStores stored_epoch (step slots epoch_word n 0 none) me n)
  stores_epoch slots id n me may s kept deep at below =
      let m : Machine = kept.m in
      let r : KeptBy shape image s m = kept.by in
      let v : View = me.0 in
      let k = own shape image s m r id v at may.may in
      let m' : Machine = after m W3 in
      let w : LoaderView = loader_did (with_next v.loader) (did.Stored epoch_word n) in
      let knows : LoaderKnows m' r.made w = record {
        made_is = k.made_is;
        images_are = k.images_are;
        epoch_is = ap (λ e. e + 1) k.epoch_is;
        version_is = k.version_is;
        region_is = k.region_is;
        writing_is = k.writing_is;
        retired_is = k.retired_is;
        cleared_is = k.cleared_is;
        draft_is = k.draft_is;
        kept_fit = k.kept_fit;
      } in (
        record v { loader = w },
        keeps,
        tt,
        record {
          m = m';
          by = loader_kept shape image s m r id v at may.may m' [] (set s.words epoch_word n) w refl (sym (append-nil m.images)) (reached_after m W3 r.reached (omega (arith, may.behind, k.epoch_is, k.version_is))) refl
              (epoch_stored shape.room s.words m r.words n (omega (arith, may.next, k.epoch_is))) r.good knows;
        },
        (refl, refl),
      )

  pub sees_pin : (slots id word region lane epoch : ℕ) (me : Sat) → MayLook word region lane epoch me.0
      → Allows (Kept shape image) slots id me word (λ (n : ℕ). n) (LoaderLoads (saw_pin region) (pin_shown region) (step slots word 0 0 none) me)
  sees_pin slots id word region lane epoch me may s kept deep at below =
      let m : Machine = kept.m in
      let r : KeptBy shape image s m = kept.by in
      let v : View = me.0 in
      let k = own shape image s m r id v at may.may in
      let its = (r.each_seat id v at).as_loader may.may in
      let n : ℕ = get_or s.words word 0 in
      let lanes_same : v.shape.lanes ≡ shape.lanes = ap (λ (x : Shape). x.lanes) its.1 in
      let there : lane < length m.lanes = omega (arith, may.there, lanes_same, r.lanes_are) in
      let now : retirement m region ≡ Some epoch = ap (λ l. get_or l region None) (sym k.retired_is) ∙ may.retired in
      let back : lane_at word ≡ lane = ap lane_at may.place ∙ lane_back lane in
      let found : n ≡ pin_of m lane = ap (λ x. get_or s.words x 0) may.place ∙ r.words.pins_are lane there in
      let m' : Machine = after m (W4 region lane) in
      let w : LoaderView = loader_did (with_clearing region (lane_at word) n v.loader) (did.Loaded word n) in
      let clearing : List (List Bool) → List (Option ℕ) → ℕ → ℕ → List (List Bool) = λ c t l p.
      set c region (set (get_or c region []) l (get_or (get_or c region []) l false || is_past p (get_or t region None))) in
      let cleared : w.cleared ≡ m'.cleared = λ i. clearing (k.cleared_is i) (k.retired_is i) (back i) (found i) in
      let rule = reached_rule law m r.reached in
      let inside : region < length v.loader.cleared =
      omega (arith, some_within v.loader.retired region epoch may.retired, ap length k.retired_is, ap length k.cleared_is, rule.well_formed.retired, rule.well_formed.cleared) in
      let size : length (get_or v.loader.cleared region []) ≡ length m.lanes =
      ap (λ c. length (get_or c region [])) k.cleared_is ∙ All-get_or (λ x. length x ≡ length m.lanes) m.cleared region [] (omega (arith, inside, ap length k.cleared_is)) rule.well_formed.by_lane in
      let shown : IsLook region (lane_at word) n v.loader =
      subst (λ l. IsLook region l n v.loader) (sym back) (looks v.loader region lane n inside (omega (arith, size, there))) in
      let knows : LoaderKnows m' r.made w = record {
        made_is = k.made_is;
        images_are = k.images_are;
        epoch_is = k.epoch_is;
        version_is = k.version_is;
        region_is = k.region_is;
        writing_is = k.writing_is;
        retired_is = k.retired_is;
        cleared_is = cleared;
        draft_is = k.draft_is;
        kept_fit = k.kept_fit;
      } in (
        record v { loader = w },
        keeps,
        tt,
        record {
          m = m';
          by = loader_kept shape image s m r id v at may.may m' [] (set s.words word n) w refl (sym (append-nil m.images)) (reached_after m (W4 region lane) r.reached (there, (epoch, now))) refl
              (words_looked shape.room s.words m r.words word region lane) r.good knows;
        },
        (refl, refl, shown),
      )

  pub stores_published : (slots id n region : ℕ) (me : Sat) → MayPublish n region me.0 → IsLike image me.0.loader.draft
      → Allows (Kept shape image) slots id me published_word (λ _. n) (λ _. LoaderStores stored_published (step slots published_word n 0 none) me n)
  stores_published slots id n region me may like s kept deep at below =
      let m : Machine = kept.m in
      let r : KeptBy shape image s m = kept.by in
      let v : View = me.0 in
      let k = own shape image s m r id v at may.may in
      let its = (r.each_seat id v at).as_loader may.may in
      let rule = reached_rule law m r.reached in
      let draft : List ℕ = v.loader.draft in
      let size : ℕ = length draft in
      let writing : m.writing ≡ Some region = sym k.writing_is ∙ may.writing in
      let free = rule.written region writing in
      let begins : take size (words_of m region) ≡ draft = k.draft_is region may.writing in
      let short : size ≤ length (words_of m region) = let e : size ≡ min size (length (words_of m region)) = sym (ap length begins) ∙ length-take size (words_of m region) in omega (arith, e) in
      let m' : Machine = after m (W2 region size) in
      let count : length m.images ≡ m.version + 1 = rule.published.0 in
      let last : image_of m' (m.version + 1) ≡ draft = get_or_push m.images (take size (words_of m region)) [] (m.version + 1) count ∙ begins in
      let low : region < 256 = omega (arith, free.0, r.regions_are, r.within.few_regions) in
      let room : size ≤ shape.room = omega (arith, short, r.words.short region) in
      let named : region_in n ≡ region = ap region_in may.word ∙ region_back (v.loader.version + 1) region size low (omega (arith, room, r.within.small_room)) in
      let word : n ≡ packed (m.version + 1) region (length (image_of m' (m.version + 1))) =
      may.word ∙ (λ i. packed (k.version_is i + 1) region (length (sym last i))) in
      let w : LoaderView = loader_did (with_published v.shape.lanes (region_in n) v.loader) (did.Stored published_word n) in
      let lanes_same : v.shape.lanes ≡ length m.lanes = ap (λ (x : Shape). x.lanes) its.1 ∙ sym r.lanes_are in
      let retire : List (Option ℕ) → ℕ → ℕ → ℕ → List (Option ℕ) = λ t old e new. set (set t old (Some e)) new None in
      let knows : LoaderKnows m' r.made w = record {
        made_is = k.made_is;
        images_are = λ i. k.images_are i ++ sym begins i ∷ [];
        epoch_is = k.epoch_is;
        version_is = ap (λ x. x + 1) k.version_is;
        region_is = named;
        writing_is = refl;
        retired_is = λ i. retire (k.retired_is i) (k.region_is i) (k.epoch_is i) (named i);
        cleared_is = λ i. set (k.cleared_is i) (named i) (replicate (lanes_same i) false);
        draft_is = λ x e. absurd (none-some x e);
        kept_fit = kept_longer shape m r.made r.loader r.seat_of s.views r.each_seat m' (take size (words_of m region) ∷ []) (λ l. refl) refl v.loader.kept k.kept_fit;
      } in (
        record v { loader = w },
        keeps,
        tt,
        record {
          m = m';
          by = loader_kept shape image s m r id v at may.may m' (take size (words_of m region) ∷ []) (set s.words published_word n) w refl refl
              (reached_after m (W2 region size) r.reached (free.0, writing, short, sym k.epoch_is ∙ (may.now ∙ k.version_is), omega (arith, may.more, k.version_is))) refl
              (published_stored shape.room s.words m r.words n region size word)
              (All-push (IsLike image) m.images (take size (words_of m region)) r.good (subst (IsLike image) (sym begins) like)) knows;
        },
        (refl, refl),
      )

  pub stores_word : (slots id word n region : ℕ) (me : Sat) → MayWrite word region me.0
      → Allows (Kept shape image) slots id me word (λ _. n) (λ _. LoaderStores (stored_word region) (step slots word n 0 none) me n)
  stores_word slots id word n region me may s kept deep at below =
      let m : Machine = kept.m in
      let r : KeptBy shape image s m = kept.by in
      let v : View = me.0 in
      let k = own shape image s m r id v at may.may in
      let its = (r.each_seat id v at).as_loader may.may in
      let rule = reached_rule law m r.reached in
      let draft : List ℕ = v.loader.draft in
      let a : ℕ = length draft in
      let there : region < shape.regions = omega (arith, may.there, ap (λ (x : Shape). x.regions) its.1) in
      let inside : region < length m.regions = omega (arith, there, r.regions_are) in
      let free = free_is_cleared shape image s m r id v at may.may rule region there may.spare its.1 may.free in
      let room_same : v.shape.room ≡ shape.room = ap (λ (x : Shape). x.room) its.1 in
      let place : place_of shape.room region a ≡ word = ap (λ x. place_of x region a) (sym room_same) ∙ sym may.place in
      let room : a < shape.room = omega (arith, may.room, room_same) in
      let alone : NoOtherIsWritten m region = ⊎_elim
      (λ (e : v.loader.writing ≡ None). inl (sym k.writing_is ∙ e))
      (λ (e : v.loader.writing ≡ Some region). inr (sym k.writing_is ∙ e))
      may.alone in
      let begins : take a (words_of m region) ≡ draft = ⊎_elim
      (λ (e : v.loader.writing ≡ None). empty_begins (words_of m region) draft (may.fresh e))
      (λ (e : v.loader.writing ≡ Some region). k.draft_is region e)
      may.alone in
      let low : a ≤ length (words_of m region) = let e : a ≡ min a (length (words_of m region)) = sym (ap length begins) ∙ length-take a (words_of m region) in omega (arith, e) in
      let m' : Machine = after m (W1 region a n) in
      let w : LoaderView = loader_did (with_written region n v.loader) (did.Stored word n) in
      let here : words_of m' region ≡ stored (words_of m region) a n = get_or-set_same m.regions region (stored (words_of m region) a n) [] inside in
      let knows : LoaderKnows m' r.made w = record {
        made_is = k.made_is;
        images_are = k.images_are;
        epoch_is = k.epoch_is;
        version_is = k.version_is;
        region_is = k.region_is;
        writing_is = refl;
        retired_is = k.retired_is;
        cleared_is = k.cleared_is;
        draft_is = λ x e. let same : region ≡ x = cc e in
            subst (λ y. BeginsWith (words_of m' y) (draft ++ n ∷ [])) same (subst (λ l. BeginsWith l (draft ++ n ∷ [])) (sym here) (stored_begins (words_of m region) draft n low begins));
        kept_fit = k.kept_fit;
      } in
      let fits : place_of shape.room region a < length s.words = omega (arith, place_low (length m.regions) shape.room region a inside room, r.words.wide) in
      let stored_words = word_stored shape.room s.words m r.words region a n inside low room fits (omega (arith, r.lanes_are, r.within.few_lanes)) in (
        record v { loader = w },
        keeps,
        tt,
        record {
          m = m';
          by = loader_kept shape image s m r id v at may.may m' [] (set s.words word n) w refl (sym (append-nil m.images))
              (reached_after m (W1 region a n) r.reached (inside, (λ e. may.spare (e ∙ sym k.region_is)), free, alone, low)) (length-set m.regions region (stored (words_of m region) a n))
              (subst (λ x. Words shape.room (set s.words x n) m') place stored_words) r.good knows;
        },
        (refl, refl),
      )
