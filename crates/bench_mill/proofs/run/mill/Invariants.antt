use Rattle.std.proofs.Common.{◌≡◌, ◌-◌, ◌≤◌}
use Rattle.byte_forms.specs.Lines.{all_lines}
use Rattle.image_words.specs.Image.{Encodes}
use Rattle.mill_log.specs.GeneratedLog.{number_at, log_from}
use Rattle.bench_mill.specs.GeneratedBench.{generated_bench}
use Rattle.bench_mill.specs.Totals.{AreTotals}
use Rattle.bench_mill.proofs.run.mill.Given as goal

-- the totals are those of the frames so far
abbrev pub invariant-loop-first : goal.invariant-loop-first
invariant-loop-first l = record {
  image : Encodes l.image.items generated_bench;
  within : l.first ≤ l.frames;
  number : l.number ≡ number_at l.frames l.first;
  so_far : AreTotals (all_lines (log_from l.frames 0 l.first)) l.totals;
}

abbrev pub decreases-loop-first : goal.decreases-loop-first
decreases-loop-first l = l.frames - l.first
