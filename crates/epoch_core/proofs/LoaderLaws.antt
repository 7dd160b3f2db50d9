-- Each step of the loader keeps the rule.
use Rattle.std.proofs.Common.{◌≡◌, ◌≢◌, ℕ, ◌+◌, ◌<◌, ◌≤◌, ◌||◌, Bool, true, false, List, [], ◌∷◌, ◌++◌, length, take, replicate, get_or, set, Option, Some, None, inl, inr, sym, subst, refl, ap, arith, ◌∙◌}
use Rattle.std.specs.List.{All}
use Rattle.std.proofs.lemmas.List.{get_or-set_other, get_or-set_same, length-set, length-replicate, length-take-le, get_or_append_left}
use Rattle.std.proofs.lemmas.List.Elements.{All-set, All-replicate}
use Rattle.std.proofs.Common.{length-append}
use Rattle.std.proofs.Math.Seq.{get_or-append_seam}
use Rattle.epoch_core.specs.declared.lane.LaneState.{LaneState}
use Rattle.epoch_core.specs.declared.lane.LaneState.TheVariants.{Idle, Loaded, Pinned, Holding}
use Rattle.epoch_core.specs.declared.step.Step.TheVariants.{W1, W2, W3, W4}
use Rattle.epoch_core.specs.Machine.{Machine, lane_state, pin_of, words_of, image_of, retirement, is_cleared, clearings}
use Rattle.epoch_core.specs.Steps.{Holds, May, after, stored, is_past, EveryLaneIsCleared}
use Rattle.epoch_core.specs.Rule.{RegionRule, Announces, IsSpare, IsRetiredSince, BeginsWith}
use Rattle.epoch_core.proofs.ListLaws.{read_after_set, is_within}
use Rattle.epoch_core.proofs.LaneLaws.{announces_as}

-- a lane that holds something is there
pub is_there : (m : Machine) (lane epoch version region : ℕ) → Holds m lane epoch version region → lane < length m.lanes
is_there m lane epoch version region holds = is_within m.lanes lane (Holding epoch version region) Idle holds (λ e. cc e)

-- a lane that is there is cleared where every lane is
cleared_there : (m : Machine) (region lane : ℕ) → RegionRule m → region < length m.regions → lane < length m.lanes → EveryLaneIsCleared m region → is_cleared m region lane ≡ true
cleared_there m region lane rule within there every =
    every lane false (omega (arith, rule.well_formed.by_lane region [] (omega (arith, rule.well_formed.cleared))))

-- a region for which every lane is cleared is held by none
pub is_not_held : (m : Machine) (region lane epoch version held : ℕ) → RegionRule m → region < length m.regions → EveryLaneIsCleared m region →
    Holds m lane epoch version held → held ≢ region
is_not_held m region lane epoch version held rule within every holds same =
    let safe = rule.held lane epoch version held holds in
    let cleared = cleared_there m region lane rule within (is_there m lane epoch version held holds) every in
    let P : ℕ → Type 0 = λ r. is_cleared m r lane ≡ false in
    let not_cleared : is_cleared m region lane ≡ false = subst P same safe.4 in
    cc (cleared, not_cleared)

pub store_word_kept : (m : Machine) (region place word : ℕ) → May m (W1 region place word) → RegionRule m → RegionRule (after m (W1 region place word))
store_word_kept m region place word may rule =
    let words = stored (words_of m region) place word in
    let size = length-set m.regions region words in
    record {
      well_formed = record {
        published = omega (arith, size, rule.well_formed.published);
        version = rule.well_formed.version;
        pins = rule.well_formed.pins;
        retired = rule.well_formed.retired ∙ sym size;
        cleared = rule.well_formed.cleared ∙ sym size;
        by_lane = rule.well_formed.by_lane;
      };
      published =
          let P : List ℕ → Type 0 = λ ws. BeginsWith ws (image_of m m.version) in
          let kept = get_or-set_other m.regions region m.region words [] (λ e. may.1 (sym e)) in
          (rule.published.0, subst P (sym kept) rule.published.1, rule.published.2, rule.published.3);
      epoch = rule.epoch;
      pins = rule.pins;
      spare = λ other within. rule.spare other (omega (arith, size, within));
      held = λ lane epoch version held holds.
          let safe = rule.held lane epoch version held holds in
          let P : List ℕ → Type 0 = λ ws. BeginsWith ws (image_of m version) in
          let kept = get_or-set_other m.regions region held words [] (is_not_held m region lane epoch version held rule may.0 may.2 holds) in
          (safe.0, omega (arith, size, safe.1), subst P (sym kept) safe.2, safe.3, safe.4);
      written = λ other is.
          let same : region ≡ other = cc is in
          let P : ℕ → Type 0 = λ r. (r < length (set m.regions region words)) × (r ≢ m.region) × EveryLaneIsCleared m r in
          subst P same (omega (arith, size, may.0), may.1, may.2);
    }

-- a spare region stays spare in a state in which no lane that was cleared for it is so no more
spare_kept : (m n : Machine) (region : ℕ) (retired : Option ℕ) → m.epoch ≤ n.epoch → (retired ≡ None → EveryLaneIsCleared m region → EveryLaneIsCleared n region) →
    IsSpare m region retired → IsSpare n region retired
spare_kept m n region (Some epoch) later cleared spare = omega (arith, later, spare)
spare_kept m n region None later cleared spare = cleared refl spare

announces_later : (now later : ℕ) (state : LaneState) (pin : ℕ) → now ≤ later → Announces now state pin → Announces later state pin
announces_later now later Idle pin h a = a
announces_later now later (Loaded epoch) pin h a = (a.0, omega (arith, a.1))
announces_later now later (Pinned epoch) pin h a = (a.0, omega (arith, a.1))
announces_later now later (Holding epoch version region) pin h a = (a.0, omega (arith, a.1))

pub store_epoch_kept : (m : Machine) → May m W3 → RegionRule m → RegionRule (after m W3)
store_epoch_kept m may rule = record {
  well_formed = record {
    published = rule.well_formed.published;
    version = rule.well_formed.version;
    pins = rule.well_formed.pins;
    retired = rule.well_formed.retired;
    cleared = rule.well_formed.cleared;
    by_lane = rule.well_formed.by_lane;
  };
  published = rule.published;
  epoch = (omega arith, omega (arith, rule.epoch.1));
  pins = λ lane. announces_later m.epoch (m.epoch + 1) (lane_state m lane) (pin_of m lane) (omega arith) (rule.pins lane);
  spare = λ region within other. spare_kept m (after m W3) region (retirement m region) (omega arith) (λ _ every. every) (rule.spare region within other);
  held = rule.held;
  written = rule.written;
}

-- a region that is retired and one that is not are two
apart : (m : Machine) (region other epoch : ℕ) → retirement m region ≡ Some epoch → retirement m other ≡ None → other ≢ region
apart m region other epoch retired not_retired same =
    let P : ℕ → Type 0 = λ r. retirement m r ≡ None in
    let none : retirement m region ≡ None = subst P same not_retired in
    cc (retired, none)

retired_since : (epoch now : ℕ) (retired : Option ℕ) → retired ≡ Some now → IsRetiredSince epoch retired → epoch ≤ now
retired_since epoch now (Some then) is since = let e : then ≡ now = cc is in omega (arith, e, since)
retired_since epoch now None is since = absurd since

not_past : (epoch now pin : ℕ) → pin ≡ epoch + 1 → epoch ≤ now → is_past pin (Some now) ≡ false
not_past epoch now pin is h = grind arith

is_past_as : (m : Machine) (region lane now : ℕ) → retirement m region ≡ Some now → is_past (pin_of m lane) (Some now) ≡ false → is_past (pin_of m lane) (retirement m region) ≡ false
is_past_as m region lane now is h = let P : Option ℕ → Type 0 = λ o. is_past (pin_of m lane) o ≡ false in subst P (sym is) h

-- a lane that holds a retired region is not cleared for it, whatever its pin is found to be
held_is_not_past : (m : Machine) (region lane now epoch version : ℕ) → RegionRule m → retirement m region ≡ Some now →
    Holds m lane epoch version region → is_past (pin_of m lane) (retirement m region) ≡ false
held_is_not_past m region lane now epoch version rule retired holds =
    let safe = rule.held lane epoch version region holds in
    let announced = announces_as m lane (Holding epoch version region) rule holds in
    let since : epoch ≤ now = elim safe.3 as (λ _. epoch ≤ now) [
      | inl published ↦ absurd (apart m region m.region now retired rule.published.2 (sym published))
      | inr since ↦ retired_since epoch now (retirement m region) retired since
    ] in
    is_past_as m region lane now retired (not_past epoch now (pin_of m lane) announced.0 since)

pub load_pin_kept : (m : Machine) (region lane : ℕ) → May m (W4 region lane) → RegionRule m → RegionRule (after m (W4 region lane))
load_pin_kept m region lane may rule =
    let now = may.1.0 in
    let retired = may.1.1 in
    let past = is_past (pin_of m lane) (retirement m region) in
    let flag = is_cleared m region lane || past in
    let row = set (clearings m region) lane flag in
    let within : region < length m.cleared =
    let h = is_within m.retired region (Some now) None retired (λ e. cc e) in
    omega (arith, h, rule.well_formed.retired, rule.well_formed.cleared) in
    let by_lane : length (clearings m region) ≡ length m.lanes = rule.well_formed.by_lane region [] within in
    let n = after m (W4 region lane) in
    let every : (r : ℕ) → EveryLaneIsCleared m r → EveryLaneIsCleared n r = λ r all.
    let P : List Bool → Type 0 = λ bs. All (λ is. is ≡ true) bs in
    read_after_set P m.cleared region r row [] within
    (λ same.
    let Q : ℕ → Type 0 = λ x. All (λ is. is ≡ true) (clearings m x) in
    let here : All (λ is. is ≡ true) (clearings m region) = subst Q same all in
    let e : is_cleared m region lane ≡ true = here lane false (omega (arith, by_lane, may.0)) in
    let f : flag ≡ true = ap (λ (b : Bool). b || past) e in
    All-set (λ is. is ≡ true) (clearings m region) lane flag f here)
    (λ _. all) in
    record {
      well_formed = record {
        published = rule.well_formed.published;
        version = rule.well_formed.version;
        pins = rule.well_formed.pins;
        retired = rule.well_formed.retired;
        cleared = length-set m.cleared region row ∙ rule.well_formed.cleared;
        by_lane = All-set (λ bs. length bs ≡ length m.lanes) m.cleared region row (length-set (clearings m region) lane flag ∙ by_lane) rule.well_formed.by_lane;
      };
      published =
          let P : List Bool → Type 0 = λ bs. All (λ is. is ≡ false) bs in
          let kept = get_or-set_other m.cleared region m.region row [] (apart m region m.region now retired rule.published.2) in
          (rule.published.0, rule.published.1, rule.published.2, subst P (sym kept) rule.published.3);
      epoch = rule.epoch;
      pins = rule.pins;
      spare = λ other here unlike. spare_kept m n other (retirement m other) (omega arith) (λ _ all. every other all) (rule.spare other here unlike);
      held = λ other epoch version held holds.
          let safe = rule.held other epoch version held holds in
          let P : List Bool → Type 0 = λ bs. get_or bs other false ≡ false in
          let not_cleared : is_cleared n held other ≡ false =
          read_after_set P m.cleared region held row [] within
          (λ same.
          let Q : Bool → Type 0 = λ b. b ≡ false in
          let R : ℕ → Type 0 = λ x. is_cleared m x other ≡ false in
          let old : is_cleared m region other ≡ false = subst R same safe.4 in
          read_after_set Q (clearings m region) lane other flag false (omega (arith, by_lane, may.0))
          (λ alike.
          let H : ℕ → Type 0 = λ l. Holds m l epoch version held in
          let G : ℕ → Type 0 = λ x. Holds m lane epoch version x in
          let S : ℕ → Type 0 = λ l. is_cleared m region l ≡ false in
          let not_past = held_is_not_past m region lane now epoch version rule retired (subst G same (subst H alike holds)) in
          let was : is_cleared m region lane ≡ false = subst S alike old in
          ap (λ (b : Bool). b || past) was ∙ not_past)
          (λ _. old))
          (λ _. safe.4) in
          (safe.0, safe.1, safe.2, safe.3, not_cleared);
      written = λ other is.
          let w = rule.written other is in
          (w.0, w.1, every other w.2);
    }

take_again : (size : ℕ) (words : List ℕ) → size ≤ length words → BeginsWith words (take size words)
take_again size words h = ap (λ (n : ℕ). take n words) (length-take-le size words h)

pub publish_kept : (m : Machine) (region size : ℕ) → May m (W2 region size) → RegionRule m → RegionRule (after m (W2 region size))
publish_kept m region size may rule =
    let free = rule.written region may.1 in
    let image = take size (words_of m region) in
    let retired = set m.retired m.region (Some m.epoch) in
    let none = replicate (length m.lanes) false in
    let n = after m (W2 region size) in
    let within : region < length m.cleared = omega (arith, may.0, rule.well_formed.cleared) in
    let in_retired : region < length retired = omega (arith, may.0, rule.well_formed.retired, length-set m.retired m.region (Some m.epoch)) in
    let old_in_retired : m.region < length m.retired = omega (arith, rule.well_formed.published, rule.well_formed.retired) in
    record {
      well_formed = record {
        published = may.0;
        version = omega (arith, may.4);
        pins = rule.well_formed.pins;
        retired = length-set retired region None ∙ length-set m.retired m.region (Some m.epoch) ∙ rule.well_formed.retired;
        cleared = length-set m.cleared region none ∙ rule.well_formed.cleared;
        by_lane = All-set (λ bs. length bs ≡ length m.lanes) m.cleared region none (length-replicate (length m.lanes) false) rule.well_formed.by_lane;
      };
      published =
          let e : length m.images ≡ m.version + 1 = rule.published.0 in
          let P : ℕ → Type 0 = λ v. get_or (m.images ++ image ∷ []) v [] ≡ image in
          let last : get_or (m.images ++ image ∷ []) (m.version + 1) [] ≡ image = subst P e (get_or-append_seam m.images image [] []) in
          let Q : List ℕ → Type 0 = λ i. BeginsWith (words_of m region) i in
          let R : List Bool → Type 0 = λ bs. All (λ is. is ≡ false) bs in (
            simp length-append (omega (arith, e)),
            subst Q (sym last) (take_again size (words_of m region) may.2),
            get_or-set_same retired region None None in_retired,
            subst R (sym (get_or-set_same m.cleared region none [] within)) (All-replicate (λ is. is ≡ false) (length m.lanes) false refl),
          );
      epoch = (omega (arith, may.3), omega (arith, may.3));
      pins = rule.pins;
      spare = λ other here unlike.
          let P : Option ℕ → Type 0 = λ o. IsSpare n other o in
          let every : EveryLaneIsCleared m other → EveryLaneIsCleared n other = λ all.
          let Q : List Bool → Type 0 = λ bs. All (λ is. is ≡ true) bs in
          subst Q (sym (get_or-set_other m.cleared region other none [] unlike)) all in
          subst P (sym (get_or-set_other retired region other None None unlike))
          (read_after_set P m.retired m.region other (Some m.epoch) None old_in_retired
          (λ _. omega arith)
          (λ unpublished. spare_kept m n other (retirement m other) (omega arith) (λ _ all. every all) (rule.spare other here unpublished)));
      held = λ lane epoch version held holds.
          let safe = rule.held lane epoch version held holds in
          let unlike = is_not_held m region lane epoch version held rule may.0 free.2 holds in
          let announced = announces_as m lane (Holding epoch version held) rule holds in
          let P : List ℕ → Type 0 = λ i. BeginsWith (words_of m held) i in
          let Q : List Bool → Type 0 = λ bs. get_or bs lane false ≡ false in
          let R : Option ℕ → Type 0 = λ o. IsRetiredSince epoch o in
          let since : IsRetiredSince epoch (get_or (set retired region None) held None) =
          subst R (sym (get_or-set_other retired region held None None unlike))
          (read_after_set R m.retired m.region held (Some m.epoch) None old_in_retired
          (λ _. announced.1)
          (λ unpublished. elim safe.3 as (λ _. IsRetiredSince epoch (get_or m.retired held None)) [
            | inl published ↦ absurd (unpublished published)
            | inr since ↦ since
          ])) in (
            omega (arith, safe.0),
            safe.1,
            subst P (sym (get_or_append_left m.images (image ∷ []) [] version (omega (arith, rule.published.0, safe.0)))) safe.2,
            inr since,
            subst Q (sym (get_or-set_other m.cleared region held none [] unlike)) safe.4,
          );
      written = λ other is. absurd (cc is);
    }
