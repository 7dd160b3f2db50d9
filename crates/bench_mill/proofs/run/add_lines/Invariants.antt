use Rattle.std.proofs.Common.{◌≡◌, length}
use Rattle.byte_forms.specs.Lines.{all_lines}
use Rattle.bench_mill.specs.declared.totals.Totals.{Totals}
use Rattle.bench_mill.specs.Totals.{Adds}
use Rattle.bench_mill.proofs.run.add_lines.Given as goal

-- what the lines that are left come to, all lines come to
abbrev pub invariant-loop-text : goal.invariant-loop-text
invariant-loop-text l = record {
  same : l.image ≡ l.fn.image;
  so_far : (after : Totals) → Adds l.totals (all_lines l.rest) after → Adds l.fn.totals (all_lines l.piece) after;
}

abbrev pub decreases-loop-text : goal.decreases-loop-text
decreases-loop-text l = length l.rest
