use Rattle.std.proofs.Common.{◌∙◌, refl, ap, sym}
use Rattle.image_words.specs.Image.{Encodes}
use Rattle.bench_mill.specs.GeneratedBench.{generated_bench}
use Rattle.bench_mill.specs.Totals.{line_meaning}
use Rattle.bench_mill.proofs.SumLaws.{unmatched_adds, frame_adds, no_frame, one_bus}
use Rattle.bench_mill.proofs.run.add_line.Goals as goal

pub walk-requires-clause-some : goal.walk-requires-clause-some
walk-requires-clause-some c = c.whole_list_fits.ensures.some c.args.image.now.items generated_bench c.requires c.the_bench_is_valid.ensures

pub walk-requires-clause-bus : goal.walk-requires-clause-bus
walk-requires-clause-bus c =
    one_bus c.args.image.now.items (c.whole_list_fits.ensures.fits c.args.image.now.items generated_bench c.requires c.the_bench_is_valid.ensures)

pub returns-clause-added : goal.returns-clause-added
returns-clause-added c =
    let encodes : Encodes c.walk.new.words.items generated_bench = rw c.walk.ensures.reads c.requires in
    frame_adds c.args.text.now c.bytes.result.now c.in-Frame.payload c.in-Frame.micros c.in-Frame.key c.args.totals.now c.walk.new.visitor _
    c.in-Frame.ensures.value c.bytes.ensures.value
    (c.in_ok-walk.ensures.given c.walk.new.words.items generated_bench
    (c.whole_list_fits.ensures.fits c.walk.new.words.items generated_bench encodes c.the_bench_is_valid.ensures))

pub returns-in_default : goal.returns-in_default
returns-in_default c = record {
  same = refl;
  added = unmatched_adds c.args.text.now c.args.totals.now (ap line_meaning (sym c.line.ensures.value) ∙ no_frame c.line.result c.in_default.not-Frame);
}
