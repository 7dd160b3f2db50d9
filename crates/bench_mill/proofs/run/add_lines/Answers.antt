use Rattle.std.proofs.Common.{◌∙◌, refl, rules}
use Rattle.bench_mill.proofs.SumLaws.{lines_left, lines_end}
use Rattle.bench_mill.proofs.run.add_lines.Goals as goal

pub loop-text-init : goal.loop-text-init
loop-text-init c = record { same = refl; so_far = λ after h. h }

pub add_line-requires : goal.add_line-requires
add_line-requires c = rw c.loop-text.invariant.same c.requires

pub loop-text-preserved : goal.loop-text-preserved
loop-text-preserved c = record {
  same = c.add_line.ensures.same ∙ c.loop-text.invariant.same;
  so_far = lines_left c.args.totals.now c.loop-text.totals c.add_line.new.totals _ c.in-Some.text.now c.loop-text.rest.now c.in-Some.after.now
      c.loop-text.invariant.so_far c.in-Some.ensures.line c.in_ok-add_line.ensures.added;
}

pub returns-clause-added : goal.returns-clause-added
returns-clause-added c = lines_end c.args.totals.now c.loop-text.totals _ c.loop-text.rest.now c.loop-text.invariant.so_far (c.in_default.ensures.none.0 (search rules))
