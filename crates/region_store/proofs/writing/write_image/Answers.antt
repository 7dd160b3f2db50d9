use Rattle.std.proofs.Common.{◌≡◌, ℕ, ◌+◌, ◌<◌, refl, sym, ap, ◌∙◌, arith}
use Rattle.region_store.specs.declared.view.Shape.{Shape}
use Rattle.region_store.specs.declared.view.View.{View}
use Rattle.region_store.specs.Layout.{place_of, word_count}
use Rattle.region_store.proofs.PlaceLaws.{place_low, place_more, count_low}
use Rattle.region_store.proofs.WriteLaws.{written_none, written_more, may_write}
use Rattle.region_store.proofs.writing.write_image.Goals as goal

-- the word of the table that is stored
place_inside : (shape : Shape) (region start at words : ℕ) → start ≡ place_of shape.room region 0 → region < shape.regions → at < shape.room → words ≡ word_count shape.regions shape.room → start + at < words
place_inside shape region start at words is there below wide =
    omega (arith, ap (λ n. n + at) is ∙ place_more shape.room region at, place_low shape.regions shape.room region at there below, wide)

pub loop-at-init : goal.loop-at-init
loop-at-init g c = record {
  on = c.requires.on;
  so_far = written_none c.args.region c.args.image.now c.args.seat.now.me.0 c.requires.loader.1 c.requires.loader.2;
}

pub store_word-requires-clause-inside : goal.store_word-requires-clause-inside
store_word-requires-clause-inside g c =
    let shape : Shape = c.args.seat.now.me.0.shape in
    place_inside shape c.args.region c.args.start c.loop-at.at c.args.table.now.shared.table_id.words c.requires.start c.requires.found.there (omega (arith, c.loop-at-test.true, c.requires.image.1))
    (c.requires.on.wide ∙ ap (λ (s : Shape). word_count s.regions s.room) (sym c.requires.on.shape))

pub overflow_add-start : goal.overflow_add-start
overflow_add-start g c =
    let shape : Shape = c.args.seat.now.me.0.shape in
    let key : Shape = c.args.table.now.shared.key.shape in
    let inside = place_inside shape c.args.region c.args.start c.loop-at.at c.args.table.now.shared.table_id.words c.requires.start c.requires.found.there (omega (arith, c.loop-at-test.true, c.requires.image.1))
    (c.requires.on.wide ∙ ap (λ (s : Shape). word_count s.regions s.room) (sym c.requires.on.shape)) in
    omega (arith, inside, c.requires.on.wide, count_low key.regions key.room c.requires.on.within.few_regions c.requires.on.within.small_room)

pub store_word-requires-clause-may : goal.store_word-requires-clause-may
store_word-requires-clause-may g c =
    let v : View = c.args.seat.now.me.0 in
    let place : c.args.start + c.loop-at.at ≡ place_of v.shape.room c.args.region 0 + c.loop-at.at = ap (λ n. n + c.loop-at.at) c.requires.start in
    may_write c.args.region c.args.image.now v c.loop-at.at _ c.loop-at.seat.me.0 c.requires.loader.0 c.requires.found (omega (arith, c.loop-at-test.true)) c.requires.image.1 place c.loop-at.invariant.so_far

pub loop-at-preserved : goal.loop-at-preserved
loop-at-preserved g c =
    let v : View = c.args.seat.now.me.0 in
    let place : c.args.start + c.loop-at.at ≡ place_of v.shape.room c.args.region 0 + c.loop-at.at = ap (λ n. n + c.loop-at.at) c.requires.start in
    record {
      on = c.store_word.ensures.on;
      so_far = written_more c.args.region c.args.image.now v c.loop-at.at _ _ c.loop-at.seat.me.0 c.store_word.new.seat.me.0 (omega (arith, c.loop-at-test.true)) refl place c.loop-at.invariant.so_far c.store_word.ensures.stored;
    }
