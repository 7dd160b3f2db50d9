-- The words of a store show the machine after each of its steps.
use Rattle.std.proofs.Common.{◌≡◌, ◌≢◌, ℕ, ◌+◌, ◌<◌, ◌≤◌, List, [], ◌∷◌, ◌++◌, length, get_or, set}
use Rattle.std.proofs.Common.{sym, ap, ◌∙◌, subst, arith, ⊎_elim, length-set, length-append, get_or-set_same, get_or-set_other, eq-eqb, ne_eqb, if◌then◌else◌}
use Rattle.std.proofs.lemmas.Bool.{cases_eq}
use Rattle.std.proofs.lemmas.List.{set-get_or, get_or_append_left, get_or_push}
use Rattle.epoch_core.specs.declared.lane.LaneState.{LaneState}
use Rattle.epoch_core.specs.Machine.{Machine, words_of, image_of}
use Rattle.epoch_core.specs.declared.step.Step.TheVariants.{W1, W2, W3, W4}
use Rattle.epoch_core.specs.Steps.{after, stored}
use Rattle.region_store.specs.Layout.{published_word, epoch_word, pin_place, place_of, packed, word_count, most_lanes}
use Rattle.region_store.specs.Rule.{Words}
use Rattle.region_store.proofs.PlaceLaws.{place_high, count_high, places_apart, pin_low}

module _ (room : ℕ) (ws : List ℕ) (m : Machine) (h : Words room ws m) where
  -- a load leaves them, and lanes may change
  pub words_loaded : (i : ℕ) (lanes : List LaneState) → length lanes ≡ length m.lanes → Words room (set ws i (get_or ws i 0)) (record m { lanes = lanes })
  words_loaded i lanes count =
      subst (λ vs. Words room vs (record m { lanes = lanes })) (sym (set-get_or ws i 0)) record {
        wide = h.wide;
        published_is = h.published_is;
        epoch_is = h.epoch_is;
        pins_are = λ lane below. h.pins_are lane (omega (arith, below, count));
        short = h.short;
        regions_are = h.regions_are;
      }

  pub words_looked : (i region lane : ℕ) → Words room (set ws i (get_or ws i 0)) (after m (W4 region lane))
  words_looked i region lane =
      subst (λ vs. Words room vs (after m (W4 region lane))) (sym (set-get_or ws i 0)) record {
        wide = h.wide;
        published_is = h.published_is;
        epoch_is = h.epoch_is;
        pins_are = h.pins_are;
        short = h.short;
        regions_are = h.regions_are;
      }

  -- a lane stores its pin
  pub pin_stored : (lane n : ℕ) (lanes : List LaneState) → lane < length m.pins → lane < most_lanes → length lanes ≡ length m.lanes
      → Words room (set ws (pin_place lane) n) (record m { pins = set m.pins lane n; lanes = lanes })
  pin_stored lane n lanes there few count =
      let low = pin_low lane few in
      let high = count_high (length m.regions) room in
      record {
        wide = length-set ws (pin_place lane) n ∙ h.wide;
        published_is = get_or-set_other ws (pin_place lane) published_word n 0 (λ e. omega (arith, e)) ∙ h.published_is;
        epoch_is = get_or-set_other ws (pin_place lane) epoch_word n 0 (λ e. omega (arith, e)) ∙ h.epoch_is;
        pins_are = λ l below. ⊎_elim
            (λ (e : l ≡ lane). ap (λ k. get_or (set ws (pin_place lane) n) (pin_place k) 0) e ∙ (get_or-set_same ws (pin_place lane) n 0 (omega (arith, low, high, h.wide)) ∙ sym (ap (λ k. get_or (set m.pins lane n) k 0) e ∙ get_or-set_same m.pins lane n 0 there)))
            (λ (e : l ≢ lane). get_or-set_other ws (pin_place lane) (pin_place l) n 0 (λ same. e (omega (arith, same))) ∙ (h.pins_are l (omega (arith, below, count)) ∙ sym (get_or-set_other m.pins lane l n 0 e)))
            (cases_eq l lane);
        short = h.short;
        regions_are = λ region at within below.
            let far = place_high room region at in
            get_or-set_other ws (pin_place lane) (place_of room region at) n 0 (λ e. omega (arith, e, far, low)) ∙ h.regions_are region at within below;
      }

  -- the loader stores the epoch
  pub epoch_stored : (n : ℕ) → n ≡ m.epoch + 1 → Words room (set ws epoch_word n) (after m W3)
  epoch_stored n is =
      let high = count_high (length m.regions) room in
      record {
        wide = length-set ws epoch_word n ∙ h.wide;
        published_is = get_or-set_other ws epoch_word published_word n 0 (λ e. omega (arith, e)) ∙ h.published_is;
        epoch_is = get_or-set_same ws epoch_word n 0 (omega (arith, high, h.wide)) ∙ is;
        pins_are = λ l below. get_or-set_other ws epoch_word (pin_place l) n 0 (λ e. omega (arith, e)) ∙ h.pins_are l below;
        short = h.short;
        regions_are = λ region at within below.
            let far = place_high room region at in
            get_or-set_other ws epoch_word (place_of room region at) n 0 (λ e. omega (arith, e, far)) ∙ h.regions_are region at within below;
      }

  -- the published word
  pub published_stored : (n region size : ℕ) → n ≡ packed (m.version + 1) region (length (image_of (after m (W2 region size)) (m.version + 1)))
      → Words room (set ws published_word n) (after m (W2 region size))
  published_stored n region size is =
      let high = count_high (length m.regions) room in
      record {
        wide = length-set ws published_word n ∙ h.wide;
        published_is = get_or-set_same ws published_word n 0 (omega (arith, high, h.wide)) ∙ is;
        epoch_is = get_or-set_other ws published_word epoch_word n 0 (λ e. omega (arith, e)) ∙ h.epoch_is;
        pins_are = λ l below. get_or-set_other ws published_word (pin_place l) n 0 (λ e. omega (arith, e)) ∙ h.pins_are l below;
        short = h.short;
        regions_are = λ r at within below.
            let far = place_high room r at in
            get_or-set_other ws published_word (place_of room r at) n 0 (λ e. omega (arith, e, far)) ∙ h.regions_are r at within below;
      }

-- a word that is stored in a region
stored_length : (xs : List ℕ) (place word room : ℕ) → place ≤ length xs → place < room → length xs ≤ room → length (stored xs place word) ≤ room
stored_length xs place word room low below short =
    ⊎_elim
    (λ (e : place ≡ length xs).
    let is : stored xs place word ≡ xs ++ word ∷ [] = ap (λ b. if b then xs ++ word ∷ [] else set xs place word) (eq-eqb place (length xs) e) in
    omega (arith, ap length is, length-append xs (word ∷ []), e, below))
    (λ (n : place ≢ length xs).
    let is : stored xs place word ≡ set xs place word = ap (λ b. if b then xs ++ word ∷ [] else set xs place word) (ne_eqb place (length xs) n) in
    omega (arith, ap length is, length-set xs place word, short))
    (cases_eq place (length xs))

stored_here : (xs : List ℕ) (place word : ℕ) → place ≤ length xs → get_or (stored xs place word) place 0 ≡ word
stored_here xs place word low =
    ⊎_elim
    (λ (e : place ≡ length xs).
    let is : stored xs place word ≡ xs ++ word ∷ [] = ap (λ b. if b then xs ++ word ∷ [] else set xs place word) (eq-eqb place (length xs) e) in
    ap (λ l. get_or l place 0) is ∙ get_or_push xs word 0 place (sym e))
    (λ (n : place ≢ length xs).
    let is : stored xs place word ≡ set xs place word = ap (λ b. if b then xs ++ word ∷ [] else set xs place word) (ne_eqb place (length xs) n) in
    ap (λ l. get_or l place 0) is ∙ get_or-set_same xs place word 0 (omega (arith, n, low)))
    (cases_eq place (length xs))

stored_else : (xs : List ℕ) (place word at : ℕ) → at ≢ place → at < length (stored xs place word) → (at < length xs) × (get_or (stored xs place word) at 0 ≡ get_or xs at 0)
stored_else xs place word at other within =
    ⊎_elim
    (λ (e : place ≡ length xs).
    let is : stored xs place word ≡ xs ++ word ∷ [] = ap (λ b. if b then xs ++ word ∷ [] else set xs place word) (eq-eqb place (length xs) e) in
    let below : at < length xs = omega (arith, within, ap length is, length-append xs (word ∷ []), e, other) in
    (below, ap (λ l. get_or l at 0) is ∙ get_or_append_left xs (word ∷ []) 0 at below))
    (λ (n : place ≢ length xs).
    let is : stored xs place word ≡ set xs place word = ap (λ b. if b then xs ++ word ∷ [] else set xs place word) (ne_eqb place (length xs) n) in
    (omega (arith, within, ap length is, length-set xs place word), ap (λ l. get_or l at 0) is ∙ get_or-set_other xs place at word 0 other))
    (cases_eq place (length xs))

-- the loader stores a word of a region
module _ (room : ℕ) (ws : List ℕ) (m : Machine) (h : Words room ws m) (region at n : ℕ) (there : region < length m.regions) (low : at ≤ length (words_of m region)) (below : at < room)
    (inside : place_of room region at < length ws)
    (few : length m.lanes ≤ most_lanes) where
  here : words_of (after m (W1 region at n)) region ≡ stored (words_of m region) at n
  here = get_or-set_same m.regions region (stored (words_of m region) at n) [] there

  else_same : (r : ℕ) → r ≢ region → words_of (after m (W1 region at n)) r ≡ words_of m r
  else_same r other = get_or-set_other m.regions region r (stored (words_of m region) at n) [] other

  in_region : (a : ℕ) → a < length (words_of (after m (W1 region at n)) region)
      → get_or (set ws (place_of room region at) n) (place_of room region a) 0 ≡ get_or (words_of (after m (W1 region at n)) region) a 0
  in_region a deep =
      let m' : Machine = after m (W1 region at n) in
      let p : ℕ = place_of room region at in
      ⊎_elim
      (λ (e : a ≡ at). subst (λ k. get_or (set ws p n) (place_of room region k) 0 ≡ get_or (words_of m' region) k 0) (sym e)
      (get_or-set_same ws p n 0 inside ∙ sym (ap (λ l. get_or l at 0) here ∙ stored_here (words_of m region) at n low)))
      (λ (e : a ≢ at).
      let o = stored_else (words_of m region) at n a e (subst (λ l. a < length l) here deep) in
      let inner : a < room = omega (arith, o.0, h.short region) in
      get_or-set_other ws p (place_of room region a) n 0 (λ same. e ((places_apart room region a region at inner below same).1))
      ∙ (h.regions_are region a there o.0 ∙ sym (ap (λ l. get_or l a 0) here ∙ o.1)))
      (cases_eq a at)

  pub word_stored : Words room (set ws (place_of room region at) n) (after m (W1 region at n))
  word_stored =
      let m' : Machine = after m (W1 region at n) in
      let p : ℕ = place_of room region at in
      let far = place_high room region at in
      let count : length m'.regions ≡ length m.regions = length-set m.regions region (stored (words_of m region) at n) in
      record {
        wide = length-set ws p n ∙ (h.wide ∙ ap (λ k. word_count k room) (sym count));
        published_is = get_or-set_other ws p published_word n 0 (λ e. omega (arith, e, far)) ∙ h.published_is;
        epoch_is = get_or-set_other ws p epoch_word n 0 (λ e. omega (arith, e, far)) ∙ h.epoch_is;
        pins_are = λ l few_l. let low_l = pin_low l (omega (arith, few_l, few)) in get_or-set_other ws p (pin_place l) n 0 (λ e. omega (arith, e, far, low_l)) ∙ h.pins_are l few_l;
        short = λ r. ⊎_elim
            (λ (e : r ≡ region). subst (λ k. length (words_of m' k) ≤ room) (sym e) (subst (λ l. length l ≤ room) (sym here) (stored_length (words_of m region) at n room low below (h.short region))))
            (λ (e : r ≢ region). subst (λ l. length l ≤ room) (sym (else_same r e)) (h.short r))
            (cases_eq r region);
        regions_are = λ r a within deep. ⊎_elim
            (λ (e : r ≡ region). subst (λ k. a < length (words_of m' k) → get_or (set ws p n) (place_of room k a) 0 ≡ get_or (words_of m' k) a 0) (sym e) (in_region a) deep)
            (λ (e : r ≢ region).
            let old : a < length (words_of m r) = subst (λ l. a < length l) (else_same r e) deep in
            let inner : a < room = omega (arith, old, h.short r) in
            get_or-set_other ws p (place_of room r a) n 0 (λ same. e ((places_apart room r a region at inner below same).0))
            ∙ (h.regions_are r a (omega (arith, within, count)) old ∙ sym (ap (λ l. get_or l a 0) (else_same r e))))
            (cases_eq r region);
      }
