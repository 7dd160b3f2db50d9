use Rattle.std.proofs.Common.{◌≡◌, ℕ, ◌≤◌, map}
use Rattle.byte_forms.specs.Lines.{all_lines}
use Rattle.candump_log.specs.LineOf.{line_of}
use Rattle.mill_log.specs.GeneratedLog.{generated_log}
use Rattle.bench_mill.specs.GeneratedFrames.{most_frames, generated_frames}
use Rattle.bench_mill.proofs.FrameLaws.{log_says}
use Rattle.bench_mill.proofs.MatchLaws.{log_matched}
use Rattle.bench_mill.proofs.laws.the_log_is_the_frames_of_the_generator.Goals as goal

pub returns : goal.returns
returns c =
    let says : (frames : ℕ) → frames ≤ most_frames → map line_of (all_lines (generated_log frames)) ≡ generated_frames frames =
    log_says c.pieces_are_the_log.ensures.lines c.one_line.ensures.one in
    record {
      lines = says;
      matched = λ frames within. (log_matched frames (says frames within)).0;
      signals = λ frames within. (log_matched frames (says frames within)).1;
    }
