use Rattle.std.proofs.Common.{◌≡◌, ◌∙◌, ◌++◌, ap, sym, subst, arith}
use Rattle.byte_forms.specs.Lines.{all_lines}
use Rattle.mill_log.specs.GeneratedLog.{number_at, log_from}
use Rattle.bench_mill.specs.Totals.{AreTotals}
use Rattle.bench_mill.proofs.SumLaws.{piece_adds, none_made, all_counted}
use Rattle.bench_mill.proofs.run.mill.Goals as goal

pub loop-first-init : goal.loop-first-init
unfolding number_at
loop-first-init c = record {
  image = c.in_ok-image.ensures;
  within = omega arith;
  number = c.from-number.ensures;
  so_far = subst (λ totals. AreTotals (all_lines (log_from c.args.frames 0 0)) totals) (sym c.none-totals.ensures) (none_made c.args.frames);
}

pub add_lines-requires : goal.add_lines-requires
add_lines-requires c = c.loop-first.invariant.image

pub loop-first-preserved : goal.loop-first-preserved
loop-first-preserved c =
    let first = c.loop-first.first in
    let count = c.min-count.result in
    record {
      image = rw c.add_lines.ensures.same c.loop-first.invariant.image;
      within = omega arith;
      number = c.in_ok-number.ensures.next c.args.frames c.loop-first.invariant.number;
      so_far = piece_adds c.args.frames first count c.loop-first.totals c.add_lines.new.totals _ (c.pieces_are_the_log.ensures.lines c.args.frames 0 first count)
          (c.deref.ensures.value ∙ c.in_ok-number.ensures.lines c.args.frames c.loop-first.invariant.number ∙ ap (λ xs. xs ++ log_from c.args.frames first count) c.clear.ensures.items) c.loop-first.invariant.so_far c.in_ok-add_lines.ensures.added;
    }

pub returns : goal.returns
returns c =
    let all : c.loop-first.first ≡ c.args.frames = omega (arith, c.loop-first.invariant.within) in
    all_counted c.args.frames c.loop-first.totals
    (subst (λ n. AreTotals (all_lines (log_from c.args.frames 0 n)) c.loop-first.totals) all c.loop-first.invariant.so_far)
