use Rattle.std.proofs.Common.{◌≡◌, ℕ, ◌+◌, ◌<◌, not, List, [], ◌∷◌, ◌++◌, length, false, Some, refl, sym, ap, ◌∙◌, subst, arith, inr, length-append}
use Rattle.std.proofs.lemmas.List.Elements.{All-nil, All-push}
use Rattle.epoch_core.specs.Steps.{is_past}
use Rattle.region_store.specs.declared.view.Did.TheVariants as did
use Rattle.region_store.specs.declared.view.Shape.{Shape}
use Rattle.region_store.specs.declared.view.View.{View}
use Rattle.region_store.specs.Steps.{retirement_of, loader_did, with_clearing}
use Rattle.region_store.specs.Layout.{lane_at, pin_place}
use Rattle.region_store.specs.Holders.{loads_of, IsPast}
use Rattle.region_store.specs.Publishing.{Looked}
use Rattle.region_store.proofs.PlaceLaws.{count_high, pin_low, lane_back}
use Rattle.region_store.proofs.LookLaws.{announced, past_is, looked_none, looked_then, looked_one, loads_none, loads_one, cleared_more}
use Rattle.region_store.proofs.finding.look_at.Goals as goal

pub load_pin-pin-requires-clause-may : goal.load_pin-pin-requires-clause-may
load_pin-pin-requires-clause-may g c =
    let inv = c.loop-lane.invariant in
    let v : View = c.args.seat.now.me.0 in (
      c.loop-lane.lane,
      (
        c.args.epoch,
        record {
          may = ap (λ (x : View). x.is_loader) inv.looked.same ∙ c.requires.loader;
          there = omega (arith, c.loop-lane-test.true, c.requires.lanes, ap (λ (x : View). x.shape.lanes) inv.looked.same);
          retired = ap (λ (x : View). retirement_of x.loader c.args.region) inv.looked.same ∙ c.requires.retired;
          place = c.pin_word.ensures;
        },
      ),
    )

pub load_pin-pin-requires-clause-inside : goal.load_pin-pin-requires-clause-inside
load_pin-pin-requires-clause-inside g c =
    let shape : Shape = c.args.table.now.shared.key.shape in
    let few : c.loop-lane.lane < 16 = omega (arith, c.loop-lane-test.true, c.requires.lanes, ap (λ (s : Shape). s.lanes) c.requires.on.shape, c.requires.on.within.few_lanes) in
    omega (arith, pin_low c.loop-lane.lane few, count_high shape.regions shape.room, c.requires.on.wide, c.pin_word.ensures)

-- one lane more is looked at
looked_at : (region lane word n : ℕ) (pins : List ℕ) (v u w : View) → Looked (loads_of pins) v u → length pins ≡ lane → lane < u.shape.lanes → word ≡ pin_place lane
    → w ≡ record u { loader = loader_did (with_clearing region (lane_at word) n u.loader) (did.Loaded word n) } → Looked (loads_of (pins ++ n ∷ [])) v w
looked_at region lane word n pins v u w before count low place is =
    subst (λ l. Looked l v w) (sym (loads_one pins n lane count)) (looked_then (loads_of pins) _ v u w before (looked_one u w region lane word n low place is))

pub returns-then-announces-clause-found : goal.returns-then-announces-clause-found
returns-then-announces-clause-found g c =
    let inv = c.loop-lane.invariant in
    let v : View = c.args.seat.now.me.0 in
    let u : View = c.loop-lane.seat.me.0 in
    let n : ℕ = c.load_pin-pin.result in
    let lanes : u.shape.lanes ≡ v.shape.lanes = ap (λ (x : View). x.shape.lanes) inv.looked.same in
    let low : c.loop-lane.lane < u.shape.lanes = omega (arith, c.loop-lane-test.true, c.requires.lanes, lanes) in
    let pin = announced n c.args.epoch (sym c.announces.ensures ∙ c.if-announces.true) in
    record {
      pins = inv.pins ++ n ∷ [];
      few = omega (arith, length-append inv.pins (n ∷ []), inv.count, low, lanes);
      looked = looked_at c.args.region c.loop-lane.lane c.pin_word.result n inv.pins v u _ inv.looked inv.count low c.pin_word.ensures c.load_pin-pin.ensures.seen;
      answer = (
        refl,
        record {
          epoch = c.args.epoch;
          retired = c.requires.retired;
          before = inv.pins;
          pins_are = refl;
          lane_is = sym inv.count;
          lane_low = omega (arith, low, lanes);
          pin_low = pin.0;
          pin_high = pin.1;
          passed = inv.past;
        },
      );
    }

pub loop-lane-init : goal.loop-lane-init
loop-lane-init g c =
    let v : View = c.args.seat.now.me.0 in
    record {
      on = c.requires.on;
      pins = [];
      count = refl;
      past = All-nil (IsPast c.args.epoch);
      looked = subst (λ l. Looked l v v) (sym loads_none) (looked_none v);
      clear = λ k h. absurd (omega (arith, h));
    }

pub loop-lane-preserved : goal.loop-lane-preserved
loop-lane-preserved g c =
    let inv = c.loop-lane.invariant in
    let v : View = c.args.seat.now.me.0 in
    let u : View = c.loop-lane.seat.me.0 in
    let n : ℕ = c.load_pin-pin.result in
    let lanes : u.shape.lanes ≡ v.shape.lanes = ap (λ (x : View). x.shape.lanes) inv.looked.same in
    let low : c.loop-lane.lane < u.shape.lanes = omega (arith, c.loop-lane-test.true, c.requires.lanes, lanes) in
    let retired : retirement_of u.loader c.args.region ≡ Some c.args.epoch = ap (λ (x : View). retirement_of x.loader c.args.region) inv.looked.same ∙ c.requires.retired in
    let back : lane_at c.pin_word.result ≡ c.loop-lane.lane = ap lane_at c.pin_word.ensures ∙ lane_back c.loop-lane.lane in
    let past : not (is_past n (Some c.args.epoch)) ≡ false = sym c.announces.ensures ∙ c.if-announces.false in
    record {
      on = c.load_pin-pin.ensures.on;
      pins = inv.pins ++ n ∷ [];
      count = length-append inv.pins (n ∷ []) ∙ ap (λ x. x + 1) inv.count;
      past = All-push (IsPast c.args.epoch) inv.pins n inv.past (past_is n c.args.epoch past);
      looked = looked_at c.args.region c.loop-lane.lane c.pin_word.result n inv.pins v u _ inv.looked inv.count low c.pin_word.ensures c.load_pin-pin.ensures.seen;
      clear = cleared_more u _ c.args.region c.loop-lane.lane c.pin_word.result n low c.pin_word.ensures c.load_pin-pin.ensures.seen back c.load_pin-pin.ensures.look
          (ap (λ o. not (is_past n o)) retired ∙ past) inv.clear;
    }

pub returns-clause-found : goal.returns-clause-found
returns-clause-found g c =
    let inv = c.loop-lane.invariant in
    let v : View = c.args.seat.now.me.0 in
    let end : c.loop-lane.lane ≡ v.shape.lanes = omega (arith, c.loop-lane-test.false, c.requires.lanes, c.loop-lane.auto.lane-end) in
    record {
      pins = inv.pins;
      few = omega (arith, inv.count, end);
      looked = inv.looked;
      answer = (
        inr (record { epoch = c.args.epoch; retired = c.requires.retired; all_lanes = inv.count ∙ end; past = inv.past }),
        inr (λ k below. inv.clear k (omega (arith, below, end, ap (λ (x : View). x.shape.lanes) inv.looked.same))),
      );
    }
