use Rattle.std.proofs.Common.{◌≡◌, ◌≢◌, ℕ, ◌+◌, ◌-◌, ◌*◌, ◌<◌, ◌≤◌, List, [], ◌∷◌, ◌++◌, length, sym, ap, ◌∙◌, subst, arith, length-append, ⊎_elim, inl, inr}
use Rattle.std.proofs.lemmas.Bool.{cases_eq}
use Rattle.std.proofs.lemmas.List.{length-map}
use Rattle.std.proofs.lemmas.Bool.Decides.{leb_tells}
use Rattle.region_store.specs.declared.view.Shape.{Shape}
use Rattle.region_store.specs.declared.view.View.{View}
use Rattle.region_store.specs.Holders.{loads_of, loads_for, holders_in, Held, AreHeld, spare_below}
use Rattle.region_store.specs.Publishing.{Looked}
use Rattle.region_store.proofs.LookLaws.{looked_none, looked_then, loads_length, spare_skip, spare_more, spare_length, loads_more, loads_fit, loads_for_more, holders_more, held_none, held_skip, held_more, held_few, held_back, free_back}
use Rattle.region_store.proofs.finding.find_region.Goals as goal

-- the regions before a spare one are fewer than the spare ones
spare_room : (n p all : ℕ) → n ≢ p → n < all → p < all → length (spare_below n p) + 1 ≤ all - 1
spare_room n p all o there below =
    let s = spare_length n p in
    elim (leb_tells p n) as (λ _. length (spare_below n p) + 1 ≤ all - 1) [
      | inl h ↦ omega (arith, s.1 (omega (arith, h.1, o)), there)
      | inr h ↦ omega (arith, s.0 (omega (arith, h.1)), h.1, below)
    ]

-- and there are never more than the regions so far
spare_few : (n p : ℕ) → length (spare_below n p) ≤ n
spare_few n p =
    let s = spare_length n p in
    elim (leb_tells p n) as (λ _. length (spare_below n p) ≤ n) [
      | inl h ↦ ⊎_elim (λ (e : n ≡ p). omega (arith, s.0 (omega (arith, e)))) (λ (o : n ≢ p). omega (arith, s.1 (omega (arith, h.1, o)))) (cases_eq n p)
      | inr h ↦ omega (arith, s.0 (omega (arith, h.1)))
    ]

pub loop-region-init : goal.loop-region-init
loop-region-init c =
    let v : View = c.args.seat.now.me.0 in
    record {
      on = c.requires.on;
      held = [];
      few = omega arith;
      looked = looked_none v;
      are_held = held_none v;
      holders_are = c.new-each.ensures;
    }

pub loop-region-preserved-then-region-published : goal.loop-region-preserved-then-region-published
loop-region-preserved-then-region-published c =
    let inv = c.loop-region.invariant in
    let v : View = c.args.seat.now.me.0 in
    let e : c.loop-region.region ≡ c.args.published = omega (arith, c.if-region-published.true) in
    record {
      on = inv.on;
      held = inv.held;
      few = subst (λ (l : List ℕ). length (loads_for inv.held) ≤ length l * c.args.lanes) (sym (spare_skip c.loop-region.region c.args.published e)) inv.few;
      looked = inv.looked;
      are_held = held_skip v c.loop-region.region inv.held (e ∙ c.requires.published.0) inv.are_held;
      holders_are = inv.holders_are;
    }

pub returns-in-None-clause-found : goal.returns-in-None-clause-found
returns-in-None-clause-found c =
    let inv = c.loop-region.invariant in
    let v : View = c.args.seat.now.me.0 in
    let u : View = c.loop-region.seat.me.0 in
    let w : View = c.look.new.seat.me.0 in
    let found = c.in-None.ensures.found in
    let r : ℕ = c.loop-region.region in
    let p : ℕ = c.args.published in
    let o : r ≢ p = λ e. omega (arith, e, c.if-region-published.false) in
    let there : r < v.shape.regions = omega (arith, c.loop-region-test.true, c.requires.retired.1, c.loop-region.auto.region-end) in
    let lanes_u : u.shape.lanes ≡ c.args.lanes = ap (λ (x : View). x.shape.lanes) inv.looked.same ∙ sym c.requires.lanes in
    let all = looked_then (loads_for inv.held) (loads_of found.pins) v u w inv.looked found.looked in
    let few : length (loads_of found.pins) ≤ c.args.lanes = omega (arith, found.few, lanes_u, loads_length 0 found.pins) in
    let loads = loads_more (length (loads_for inv.held)) (length (loads_of found.pins)) (length (spare_below r p)) c.args.lanes inv.few few in
    let count : length (spare_below r p) + 1 ≤ v.shape.regions - 1 = spare_room r p v.shape.regions o there c.requires.published.1 in (
      inv.held,
      record {
        found = record {
          there = omega (arith, there, ap (λ (x : View). x.shape.regions) all.same);
          spare = λ e. o (e ∙ (ap (λ (x : View). x.loader.region) all.same ∙ sym c.requires.published.0));
          free = found.answer.1;
        };
        are_held = inv.are_held;
        pins = found.pins;
        free = free_back (loads_for inv.held) v u inv.looked r found.pins found.answer.0;
        few = omega (
          arith,
          length-append (loads_for inv.held) (loads_of found.pins),
          loads_fit (length (loads_for inv.held) + length (loads_of found.pins)) (length (spare_below r p) + 1) (v.shape.regions - 1) c.args.lanes loads count,
          ap (λ x. (v.shape.regions - 1) * x) c.requires.lanes,
        );
        looked = all;
      },
    )

pub push-requires : goal.push-requires
push-requires c =
    let inv = c.loop-region.invariant in
    let v : View = c.args.seat.now.me.0 in
    let r : ℕ = c.loop-region.region in
    let there : r < v.shape.regions = omega (arith, c.loop-region-test.true, c.requires.retired.1, c.loop-region.auto.region-end) in
    let count : length (holders_in inv.held) ≡ length (spare_below r v.loader.region) = length-map inv.held (λ (x : Held). x.0) ∙ held_few v r inv.held inv.are_held in
    let s = spare_few r v.loader.region in
    let few : v.shape.regions ≤ 8 = omega (arith, ap (λ (x : Shape). x.regions) c.requires.on.shape, c.requires.on.within.few_regions) in
    omega (arith, ap length inv.holders_are, count, s, there, few)

pub loop-region-preserved : goal.loop-region-preserved
loop-region-preserved c =
    let inv = c.loop-region.invariant in
    let v : View = c.args.seat.now.me.0 in
    let u : View = c.loop-region.seat.me.0 in
    let w : View = c.look.new.seat.me.0 in
    let found = c.in-Some.ensures.found in
    let r : ℕ = c.loop-region.region in
    let p : ℕ = c.args.published in
    let o : r ≢ p = λ e. omega (arith, e, c.if-region-published.false) in
    let lanes_u : u.shape.lanes ≡ c.args.lanes = ap (λ (x : View). x.shape.lanes) inv.looked.same ∙ sym c.requires.lanes in
    let few : length (loads_of found.pins) ≤ c.args.lanes = omega (arith, found.few, lanes_u, loads_length 0 found.pins) in
    let loads = loads_more (length (loads_for inv.held)) (length (loads_of found.pins)) (length (spare_below r p)) c.args.lanes inv.few few in
    let count : length (spare_below (r + 1) p) ≡ length (spare_below r p) + 1 = ap length (spare_more r p o) ∙ length-append (spare_below r p) _ in
    let one : Held = (c.in-Some.holder, found.pins) in
    let same : loads_for (inv.held ++ one ∷ []) ≡ loads_for inv.held ++ loads_of found.pins = loads_for_more inv.held one in
    record {
      on = c.in-Some.ensures.on;
      held = inv.held ++ one ∷ [];
      few = omega (arith, ap length same, length-append (loads_for inv.held) (loads_of found.pins), loads, ap (λ x. x * c.args.lanes) count);
      looked = subst (λ l. Looked l v w) (sym same) (looked_then (loads_for inv.held) (loads_of found.pins) v u w inv.looked found.looked);
      are_held = held_more v r inv.held one (λ e. o (e ∙ sym c.requires.published.0)) inv.are_held found.answer.0
          (held_back (loads_for inv.held) v u inv.looked found.pins c.in-Some.holder found.answer.1);
      holders_are = c.push.ensures.items ∙ (ap (λ l. l ++ c.in-Some.holder ∷ []) inv.holders_are ∙ sym (holders_more inv.held one));
    }

pub returns-clause-found : goal.returns-clause-found
returns-clause-found c =
    let inv = c.loop-region.invariant in
    let v : View = c.args.seat.now.me.0 in
    let r : ℕ = c.loop-region.region in
    let p : ℕ = c.args.published in
    let end : r ≡ v.shape.regions = omega (arith, c.loop-region-test.false, c.requires.retired.1, c.loop-region.auto.region-end) in
    let count : length (spare_below r p) ≡ v.shape.regions - 1 = omega (arith, (spare_length r p).1 (omega (arith, end, c.requires.published.1)), end) in (
      inv.held,
      record {
        holders_are = inv.holders_are;
        are_held = subst (λ (n : ℕ). AreHeld v n inv.held) end inv.are_held;
        few = omega (arith, inv.few, ap (λ x. x * c.args.lanes) count, ap (λ x. (v.shape.regions - 1) * x) c.requires.lanes);
        looked = inv.looked;
      },
    )
