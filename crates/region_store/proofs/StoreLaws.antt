-- The rule holds at the start, and when seats are split and joined; and what is known once the store is closed.
use Rattle.std.proofs.Common.{◌≡◌, ℕ, zero, suc, ◌+◌, ◌-◌, ◌*◌, ◌<◌, ◌≤◌, true, false, true≢false, List, [], ◌∷◌, length, get_or, replicate, All}
use Rattle.std.proofs.Common.{refl, sym, ap, ◌∙◌, subst, arith}
use Rattle.std.proofs.lemmas.Option.{none-some}
use Rattle.std.proofs.lemmas.List.{length-replicate}
use Rattle.std.proofs.lemmas.List.Elements.{All-nil, All-cons}
use mathlib.Core.Option.{some-ne-none, some-injective}
use Rattle.atomic_table.specs.Table.{opening, Splits, Joins, Final, Seen}
use Rattle.epoch_core.specs.declared.lane.LaneState.TheVariants.{Idle}
use Rattle.epoch_core.specs.Machine.{Machine, first, words_of}
use Rattle.region_store.specs.declared.view.Shape.{Shape}
use Rattle.region_store.specs.declared.view.LaneView.{LaneView}
use Rattle.region_store.specs.declared.view.View.{View}
use Rattle.region_store.specs.Layout.{pin_place, place_of, first_region, word_count}
use Rattle.region_store.specs.Images.{IsLike}
use Rattle.region_store.specs.Uses.{UsesFit, uses_in}
use Rattle.region_store.specs.Rule.{IsWithin, Words, Knows, EachSeat, KeptBy, Kept, first_view}
use Rattle.region_store.specs.Steps.{loader_side, lane_side, both_sides, spent_view}
use Rattle.region_store.specs.Store.{AreFirstWords, IsGathered}
use Rattle.region_store.proofs.ReachedLaws.{EverySchedule, reached_rule}
use Rattle.region_store.proofs.SeatLaws.{seats_split, seats_join}
use Rattle.region_store.proofs.PlaceLaws.{pin_low}

same_at : {X : Type 0} (n i : ℕ) (x : X) → get_or (replicate n x) i x ≡ x
same_at zero i x = refl
same_at (suc n) zero x = refl
same_at (suc n) (suc i) x = same_at n i x

module _ (shape : Shape) (image ws : List ℕ) (within : IsWithin shape) (are : AreFirstWords shape image ws) (short : length image ≤ shape.room) where
  abbrev start : Machine
  start = first shape.regions shape.lanes image

  first_short : (region : ℕ) → length (words_of start region) ≤ shape.room
  first_short zero = short
  first_short (suc r) = subst (λ (l : List ℕ). length l ≤ shape.room) (sym (same_at (shape.regions - 1) r [])) (omega arith)

  first_places : (region at : ℕ) → region < length start.regions → at < length (words_of start region) → get_or ws (place_of shape.room region at) 0 ≡ get_or (words_of start region) at 0
  unfolding place_of
  first_places zero at there below =
      let e : first_region + 0 * shape.room + at ≡ first_region + at = omega arith in
      ap (λ k. get_or ws k 0) e ∙ are.image_is at below
  first_places (suc r) at there below = absurd (omega (arith, subst (λ (l : List ℕ). at < length l) (same_at (shape.regions - 1) r []) below))

  count : length start.regions ≡ shape.regions
  count = omega (arith, length-replicate {A = List ℕ} (shape.regions - 1) [], within.some_regions)

  first_words : Words shape.room ws start
  first_words = record {
    wide = are.wide ∙ ap (λ k. word_count k shape.room) (sym count);
    published_is = are.size ∙ omega arith;
    epoch_is = are.zeros 16 (omega arith) (omega arith);
    pins_are = λ lane below. let few : lane < 16 = omega (arith, below, length-replicate shape.lanes Idle, within.few_lanes) in
        are.zeros (pin_place lane) (omega arith) (pin_low lane few) ∙ sym (same_at shape.lanes lane 0);
    short = first_short;
    regions_are = first_places;
  }

  first_seat : EachSeat shape start 0 0 (λ l. l) (first_view shape image ∷ [])
  first_seat zero v e =
      let same : first_view shape image ≡ v = some-injective (first_view shape image) v e in
      subst (Knows shape start 0 0 (λ l. l) 0) same record {
        as_loader = λ is. (
          refl,
          refl,
          record {
            made_is = refl;
            images_are = refl;
            epoch_is = refl;
            version_is = refl;
            region_is = refl;
            writing_is = refl;
            retired_is = refl;
            cleared_is = refl;
            draft_is = λ x h. absurd (none-some x h);
            kept_fit = All-nil (λ (l : LaneView). UsesFit start.images (uses_in l));
          },
        );
        as_lane = λ is. absurd (true≢false (sym is));
      }
  first_seat (suc j) v e = absurd (some-ne-none v (sym e))

  pub starts : shape.buses ≡ get_or image 1 0 → IsLike image image → Kept shape image (opening ws [] (first_view shape image))
  starts buses like = record {
    m = start;
    by = record {
      within = within;
      reached = record {
        region_count = shape.regions;
        lane_count = shape.lanes;
        image = image;
        steps = [];
        limits = record { some_regions = within.some_regions; regions_end = within.few_regions; some_lanes = within.some_lanes; lanes_end = within.few_lanes };
        allowed = tt;
        is = refl;
      };
      regions_are = count;
      lanes_are = length-replicate shape.lanes Idle;
      words = first_words;
      good = All-cons (IsLike image) image [] like (All-nil (IsLike image));
      buses_are = buses;
      made = 0;
      made_low = omega arith;
      unmade = λ lane high. same_at shape.lanes lane Idle;
      loader = 0;
      seat_of = λ l. l;
      each_seat = first_seat;
    };
  }

module _ (shape : Shape) (image : List ℕ) where
  -- a lane is split off the loader's seat
  pub splits : (id : ℕ) (v : View) → v.is_loader ≡ true → v.is_lane ≡ false → v.loader.made < v.shape.lanes → Splits (Kept shape image) id v (loader_side v) (lane_side v)
  splits id v may no_lane more s kept at =
      let m : Machine = kept.m in
      let r : KeptBy shape image s m = kept.by in
      let k = (r.each_seat id v at).as_loader may in
      let room : r.made < shape.lanes = omega (arith, more, k.2.made_is, ap (λ (x : Shape). x.lanes) k.1) in
      record {
        m = m;
        by = record {
          within = r.within;
          reached = r.reached;
          regions_are = r.regions_are;
          lanes_are = r.lanes_are;
          words = r.words;
          good = r.good;
          buses_are = r.buses_are;
          made = r.made + 1;
          made_low = omega (arith, room);
          unmade = λ lane high. r.unmade lane (omega (arith, high));
          loader = r.loader;
          seat_of = _;
          each_seat = seats_split shape m r.made r.loader r.seat_of s.views r.each_seat id v at may no_lane (r.unmade r.made (omega arith));
        };
      }

  -- a lane is joined into the loader's seat
  pub joins : (id other : ℕ) (v w : View) → v.is_loader ≡ true → w.is_lane ≡ true → Joins (Kept shape image) id v other w (both_sides v w) spent_view
  joins id other v w may lane s kept at apart there =
      let m : Machine = kept.m in
      let r : KeptBy shape image s m = kept.by in
      record {
        m = m;
        by = record {
          within = r.within;
          reached = r.reached;
          regions_are = r.regions_are;
          lanes_are = r.lanes_are;
          words = r.words;
          good = r.good;
          buses_are = r.buses_are;
          made = r.made;
          made_low = r.made_low;
          unmade = r.unmade;
          loader = r.loader;
          seat_of = r.seat_of;
          each_seat = seats_join shape m r.made r.loader r.seat_of s.views r.each_seat id other v w at may apart there lane;
        };
      }

  pub closes : EverySchedule → (id : ℕ) (v : View) (ws : List ℕ) (xs : List (Unit {0})) → Final (Seen (Kept shape image) id v) ws xs → v.is_loader ≡ true → IsGathered image v.loader
  closes law id v ws xs final may =
      let s = final.0 in
      let kept = final.1.0 in
      let m : Machine = kept.m in
      let r : KeptBy shape image s m = kept.by in
      let k = ((r.each_seat id v final.1.1).as_loader may).2 in
      let rule = reached_rule law m r.reached in
      record {
        count = omega (arith, ap length k.images_are, rule.published.0, k.version_is);
        like = subst (λ images. All (IsLike image) images) (sym k.images_are) r.good;
        fit = subst (λ images. All (λ (l : LaneView). UsesFit images (uses_in l)) v.loader.kept) (sym k.images_are) k.kept_fit;
      }
