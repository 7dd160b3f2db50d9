use Rattle.std.proofs.Common.{◌≡◌, ℕ, ◌+◌, ◌-◌, ◌<◌, [], ◌∷◌, refl, sym, ap, ◌∙◌, arith}
use Rattle.region_store.specs.declared.pinned.Pinned.{Pinned}
use Rattle.region_store.specs.declared.view.View.{View}
use Rattle.region_store.specs.declared.view.Shape.{Shape}
use Rattle.region_store.specs.Layout.{place_of, word_count}
use Rattle.region_store.specs.Uses.{use_held}
use Rattle.region_store.specs.Steps.{at_in, region_held, with_read}
use Rattle.region_store.proofs.PlaceLaws.{place_low, place_more, place_back, count_low}
use Rattle.region_store.proofs.ReadLaws.{word_learns, pin_after}
use Rattle.region_store.proofs.pinning.PinnedWords.word.Goals as goal

-- the word of the table that is read
module _ (p : Pinned) (at : ℕ) (below : at < (use_held p.seat.me.0.lane.held).size) where
  view : View
  view = p.seat.me.0

  place : p.start + at ≡ place_of p.seat.me.0.shape.room (region_held p.seat.me.0.lane.state) at
  place = ap (λ n. n + at) p.rests.start_is ∙ place_more p.seat.me.0.shape.room (region_held p.seat.me.0.lane.state) at

  inside : p.start + at < p.store.now.table.shared.table_id.words
  inside =
      let key = p.store.now.table.shared.key in
      let shape : Shape = p.seat.me.0.shape in
      let low = place_low shape.regions shape.room (region_held p.seat.me.0.lane.state) at p.rests.region_low (omega (arith, below, p.rests.size_is, p.rests.size_low)) in
      omega (arith, place, low, ap (λ (s : Shape). word_count s.regions s.room) p.on.shape, p.on.wide)

  few : p.store.now.table.shared.table_id.words < 18446744073709551616
  few =
      let shape : Shape = p.store.now.table.shared.key.shape in
      omega (arith, p.on.wide, count_low shape.regions shape.room p.on.within.few_regions p.on.within.small_room)

  back : at_in p.seat.me.0 (p.start + at) ≡ at
  back = ap (λ w. w - place_of p.seat.me.0.shape.room (region_held p.seat.me.0.lane.state) 0) place ∙ place_back p.seat.me.0.shape.room (region_held p.seat.me.0.lane.state) at

pub overflow_add-self : goal.overflow_add-self
overflow_add-self c =
    let p : Pinned = c.args.self.now in
    omega (arith, inside p c.args.at c.requires, few p c.args.at c.requires)

pub load_word-requires-clause-may : goal.load_word-requires-clause-may
load_word-requires-clause-may c =
    let p : Pinned = c.args.self.now in
    let v : View = p.seat.me.0 in (
      c.args.at,
      (
        _,
        (
          p.version,
          (
            region_held v.lane.state,
            (
              use_held v.lane.held,
              record {
                may = p.rests.is_lane;
                holds = p.rests.holds;
                held = p.rests.held;
                within = c.requires;
                place = place p c.args.at c.requires;
              },
            ),
          ),
        ),
      ),
    )

pub load_word-requires-clause-inside : goal.load_word-requires-clause-inside
load_word-requires-clause-inside c = inside c.args.self.now c.args.at c.requires

pub returns-clause-learns : goal.returns-clause-learns
returns-clause-learns c =
    let p : Pinned = c.args.self.now in
    word_learns p.seat.me.0 _ _ c.load_word.result _ c.load_word.ensures.seen p.rests.held c.args.at (back p c.args.at c.requires) c.load_word.ensures.read

pub returns-clause-reads : goal.returns-clause-reads
returns-clause-reads c =
    let p : Pinned = c.args.self.now in
    let seen = c.load_word.ensures.seen in
    record {
      store = refl;
      lane = refl;
      version = refl;
      size = refl;
      start = refl;
      id = c.load_word.ensures.on.own ∙ sym p.on.own;
      shape = ap (λ (v : View). v.shape) seen;
      used = ap (λ (v : View). v.lane.used) seen;
      more = record { at = c.args.at; word = c.load_word.result } ∷ [];
      words = pin_after p.seat.me.0 _ _ c.load_word.result _ seen p.rests.held ∙ ap (λ (k : ℕ). with_read k c.load_word.result (use_held p.seat.me.0.lane.held)) (back p c.args.at c.requires);
      steps = ap (λ (v : View). v.lane.steps) seen;
    }
