-- Each seat knows its own part: after a step of a lane, after one of the loader, after a split, and after a join.
use Rattle.std.proofs.Common.{◌≡◌, ◌≢◌, ◌⊎◌, ℕ, zero, suc, ◌+◌, ◌<◌, ◌==◌, true, false, true≢false, cond, List, [], ◌∷◌, ◌++◌, length, get_or, set, All}
use Rattle.std.proofs.Common.{refl, sym, ap, ◌∙◌, subst, arith, inl, inr, ⊎_elim, length-set, eq-eqb, ne_eqb}
use Rattle.std.proofs.lemmas.Bool.{cond-true, cond-false}
use Rattle.std.proofs.lemmas.Option.{none-some}
use Rattle.std.proofs.lemmas.List.Elements.{All-push, All-weaker}
use mathlib.Core.Option.{some, some-ne-none, some-injective}
use lib.ListN.{get_elem?}
use Rattle.atomic_table.proofs.Lists.{at_set, set_else}
use Rattle.epoch_core.specs.declared.lane.LaneState.{LaneState}
use Rattle.epoch_core.specs.declared.lane.LaneState.TheVariants.{Idle}
use Rattle.epoch_core.specs.Machine.{Machine, lane_state}
use Rattle.region_store.specs.declared.view.Shape.{Shape}
use Rattle.region_store.specs.declared.view.LaneView.{LaneView}
use Rattle.region_store.specs.declared.view.LoaderView.{LoaderView}
use Rattle.region_store.specs.declared.view.View.{View}
use Rattle.region_store.specs.Uses.{UsesFit, uses_in}
use Rattle.region_store.specs.Rule.{LaneKnows, LoaderKnows, Knows, EachSeat}
use Rattle.region_store.specs.Steps.{loader_side, lane_side, both_sides, spent_view}
use Rattle.region_store.proofs.UseLaws.{uses_fit_longer}

pub at_end : (l : List View) (a b : View) (j : ℕ) → get_elem? (l ++ a ∷ []) j ≡ some b → (get_elem? l j ≡ some b) ⊎ ((j ≡ length l) × (a ≡ b))
at_end [] a b zero e = inr (refl, some-injective a b e)
at_end [] a b (suc j) e = absurd (some-ne-none b (sym e))
at_end (x ∷ xs) a b zero e = inl e
at_end (x ∷ xs) a b (suc j) e =
    ⊎_elim
    (λ (h : get_elem? xs j ≡ some b). inl h)
    (λ (h : (j ≡ length xs) × (a ≡ b)). inr (ap suc h.0, h.1))
    (at_end xs a b j e)

module _ (shape : Shape) (m : Machine) (made loader : ℕ) (seat_of : ℕ → ℕ) (views : List View) (each : EachSeat shape m made loader seat_of views) where
  -- a step of a lane
  module _ (pins : List ℕ) (lanes : List LaneState) where
    abbrev M' : Machine
    M' = record m { pins = pins; lanes = lanes }

    loader_same : (v : LoaderView) → LoaderKnows m made v → LoaderKnows M' made v
    loader_same v k = record {
      made_is = k.made_is;
      images_are = k.images_are;
      epoch_is = k.epoch_is;
      version_is = k.version_is;
      region_is = k.region_is;
      writing_is = k.writing_is;
      retired_is = k.retired_is;
      cleared_is = k.cleared_is;
      draft_is = k.draft_is;
      kept_fit = k.kept_fit;
    }

    lane_same : (v : LaneView) → get_or lanes v.lane Idle ≡ get_or m.lanes v.lane Idle → LaneKnows m made v → LaneKnows M' made v
    lane_same v same k = record { low = k.low; state_is = same ∙ k.state_is; uses = k.uses; held_is = k.held_is }

    pub seats_after_lane : (id : ℕ) (v : View) (w : LaneView) → get_elem? views id ≡ some v → v.is_lane ≡ true → w.lane ≡ v.lane.lane → LaneKnows M' made w
        → ((l : ℕ) → l ≢ v.lane.lane → get_or lanes l Idle ≡ get_or m.lanes l Idle) → EachSeat shape M' made loader seat_of (set views id (record v { lane = w }))
    seats_after_lane id v w at may same knows others j u e =
        let mine = each id v at in
        let new : View = record v { lane = w } in
        let its : Knows shape M' made loader seat_of id new = record {
          as_loader = λ is. let k = mine.as_loader is in (k.0, k.1, loader_same v.loader k.2);
          as_lane = λ is. let k = mine.as_lane may in (ap seat_of same ∙ k.0, k.1, knows);
        } in
        ⊎_elim
        (λ (h : (j ≡ id) × (new ≡ u)). subst (λ (p : ℕ × View). Knows shape M' made loader seat_of p.0 p.1) (λ i. (sym h.0 i, h.1 i)) its)
        (λ (h : (j ≢ id) × (get_elem? views j ≡ some u)). record {
          as_loader = λ is. let k = (each j u h.1).as_loader is in (k.0, k.1, loader_same u.loader k.2);
          as_lane = λ is. let k = (each j u h.1).as_lane is in
              (k.0, k.1, lane_same u.lane (others u.lane.lane (λ e. h.0 (sym k.0 ∙ (ap seat_of e ∙ (mine.as_lane may).0)))) k.2);
        })
        (at_set views id j new u e)

  -- a step of the loader, which may add images
  module _ (m' : Machine) (more : List (List ℕ)) (lanes_same : (l : ℕ) → lane_state m' l ≡ lane_state m l) (longer : m'.images ≡ m.images ++ more) where
    lane_longer : (v : LaneView) → LaneKnows m made v → LaneKnows m' made v
    lane_longer v k = record {
      low = k.low;
      state_is = lanes_same v.lane ∙ k.state_is;
      uses = subst (λ images. UsesFit images (uses_in v)) (sym longer) (uses_fit_longer m.images more (uses_in v) k.uses);
      held_is = k.held_is;
    }

    pub kept_longer : (ls : List LaneView) → All (λ (l : LaneView). UsesFit m.images (uses_in l)) ls → All (λ (l : LaneView). UsesFit m'.images (uses_in l)) ls
    kept_longer ls all = All-weaker (λ (l : LaneView). UsesFit m.images (uses_in l)) (λ (l : LaneView). UsesFit m'.images (uses_in l))
        (λ l fit. subst (λ images. UsesFit images (uses_in l)) (sym longer) (uses_fit_longer m.images more (uses_in l) fit)) ls all

    pub seats_after_loader : (id : ℕ) (v : View) (w : LoaderView) → get_elem? views id ≡ some v → v.is_loader ≡ true → LoaderKnows m' made w
        → EachSeat shape m' made loader seat_of (set views id (record v { loader = w }))
    seats_after_loader id v w at may knows j u e =
        let mine = each id v at in
        let new : View = record v { loader = w } in
        let its : Knows shape m' made loader seat_of id new = record {
          as_loader = λ is. let k = mine.as_loader may in (k.0, k.1, knows);
          as_lane = λ is. let k = mine.as_lane is in (k.0, k.1, lane_longer v.lane k.2);
        } in
        ⊎_elim
        (λ (h : (j ≡ id) × (new ≡ u)). subst (λ (p : ℕ × View). Knows shape m' made loader seat_of p.0 p.1) (λ i. (sym h.0 i, h.1 i)) its)
        (λ (h : (j ≢ id) × (get_elem? views j ≡ some u)). record {
          as_loader = λ is. absurd (h.0 (((each j u h.1).as_loader is).0 ∙ sym (mine.as_loader may).0));
          as_lane = λ is. let k = (each j u h.1).as_lane is in (k.0, k.1, lane_longer u.lane k.2);
        })
        (at_set views id j new u e)

  -- a lane is split off: the next one, whose seat is the next one
  abbrev seat_of' : ℕ → ℕ
  seat_of' l = cond (l == made) (length views) (seat_of l)

  old_seat : (l : ℕ) → l < made → seat_of' l ≡ seat_of l
  old_seat l low = cond-false (l == made) (length views) (seat_of l) (ne_eqb l made (λ e. omega (arith, e, low)))

  pub seats_split : (id : ℕ) (v : View) → get_elem? views id ≡ some v → v.is_loader ≡ true → v.is_lane ≡ false → lane_state m made ≡ Idle
      → EachSeat shape m (made + 1) loader seat_of' (set views id (loader_side v) ++ lane_side v ∷ [])
  seats_split id v at may no_lane idle j u e =
      let mine = each id v at in
      let left : View = loader_side v in
      let right : View = lane_side v in
      let count : length (set views id left) ≡ length views = length-set views id left in
      let k = mine.as_loader may in
      let on_left : Knows shape m (made + 1) loader seat_of' id left = record {
        as_loader = λ is. (
          k.0,
          k.1,
          record {
            made_is = ap (λ n. n + 1) k.2.made_is;
            images_are = k.2.images_are;
            epoch_is = k.2.epoch_is;
            version_is = k.2.version_is;
            region_is = k.2.region_is;
            writing_is = k.2.writing_is;
            retired_is = k.2.retired_is;
            cleared_is = k.2.cleared_is;
            draft_is = k.2.draft_is;
            kept_fit = k.2.kept_fit;
          },
        );
        as_lane = λ is. absurd (true≢false (sym is ∙ no_lane));
      } in
      let on_right : Knows shape m (made + 1) loader seat_of' (length views) right = record {
        as_loader = λ is. absurd (true≢false (sym is));
        as_lane = λ is. (
          cond-true (v.loader.made == made) (length views) (seat_of v.loader.made) (eq-eqb v.loader.made made k.2.made_is),
          k.1,
          record {
            low = omega (arith, k.2.made_is);
            state_is = ap (lane_state m) k.2.made_is ∙ idle;
            uses = record { fit = λ i d below. absurd (omega (arith, below)); rise = λ i l d below within. absurd (omega (arith, within)) };
            held_is = λ w held. absurd (none-some w held);
          },
        );
      } in
      ⊎_elim
      (λ (here : get_elem? (set views id left) j ≡ some u).
      ⊎_elim
      (λ (h : (j ≡ id) × (left ≡ u)). subst (λ (p : ℕ × View). Knows shape m (made + 1) loader seat_of' p.0 p.1) (λ i. (sym h.0 i, h.1 i)) on_left)
      (λ (h : (j ≢ id) × (get_elem? views j ≡ some u)). record {
        as_loader = λ is. absurd (h.0 (((each j u h.1).as_loader is).0 ∙ sym k.0));
        as_lane = λ is. let l = (each j u h.1).as_lane is in (
          old_seat u.lane.lane l.2.low ∙ l.0,
          l.1,
          record { low = omega (arith, l.2.low); state_is = l.2.state_is; uses = l.2.uses; held_is = l.2.held_is },
        );
      })
      (at_set views id j left u here))
      (λ (h : (j ≡ length (set views id left)) × (right ≡ u)).
      subst (λ (p : ℕ × View). Knows shape m (made + 1) loader seat_of' p.0 p.1) (λ i. (sym (h.0 ∙ count) i, h.1 i)) on_right)
      (at_end (set views id left) right u j e)

  -- a lane is joined into the loader's seat
  pub seats_join : (id other : ℕ) (v w : View) → get_elem? views id ≡ some v → v.is_loader ≡ true → other ≢ id
      → get_elem? (set views id (both_sides v w)) other ≡ some w → w.is_lane ≡ true
      → EachSeat shape m made loader seat_of (set (set views id (both_sides v w)) other spent_view)
  seats_join id other v w at may apart there lane j u e =
      let both : View = both_sides v w in
      let mine = each id v at in
      let k = mine.as_loader may in
      let found : get_elem? views other ≡ some w = sym (set_else views id other both apart) ∙ there in
      let its = (each other w found).as_lane lane in
      let on_both : Knows shape m made loader seat_of id both = record {
        as_loader = λ is. (
          k.0,
          k.1,
          record {
            made_is = k.2.made_is;
            images_are = k.2.images_are;
            epoch_is = k.2.epoch_is;
            version_is = k.2.version_is;
            region_is = k.2.region_is;
            writing_is = k.2.writing_is;
            retired_is = k.2.retired_is;
            cleared_is = k.2.cleared_is;
            draft_is = k.2.draft_is;
            kept_fit = All-push (λ (l : LaneView). UsesFit m.images (uses_in l)) v.loader.kept w.lane k.2.kept_fit its.2.uses;
          },
        );
        as_lane = λ is. mine.as_lane is;
      } in
      let on_spent : (seat : ℕ) → Knows shape m made loader seat_of seat spent_view = λ seat. record {
        as_loader = λ is. absurd (true≢false (sym is));
        as_lane = λ is. absurd (true≢false (sym is));
      } in
      ⊎_elim
      (λ (h : (j ≡ other) × (spent_view ≡ u)). subst (Knows shape m made loader seat_of j) h.1 (on_spent j))
      (λ (out : (j ≢ other) × (get_elem? (set views id both) j ≡ some u)).
      ⊎_elim
      (λ (h : (j ≡ id) × (both ≡ u)). subst (λ (p : ℕ × View). Knows shape m made loader seat_of p.0 p.1) (λ i. (sym h.0 i, h.1 i)) on_both)
      (λ (h : (j ≢ id) × (get_elem? views j ≡ some u)). each j u h.1)
      (at_set views id j both u out.1))
      (at_set (set views id both) other j spent_view u e)
