use Rattle.std.proofs.Common.{◌≡◌, ◌∙◌, ℕ, suc, ◌+◌, ◌++◌, ap, sym, arith, append_assoc}
use Rattle.std.proofs.lemmas.List.{append-nil}
use Rattle.mill_log.specs.GeneratedLog.{number_at, frame_number, line_of_frame, log_from}
use Rattle.mill_log.proofs.LogLaws.{log_more, next_number, no_frames}
use Rattle.mill_log.proofs.frames.push_frames.Goals as goal

pub loop-k-init : goal.loop-k-init
loop-k-init c =
    let place : c.args.first ≡ c.args.first + 0 = omega arith in
    record {
      next = λ seed e. e ∙ ap (number_at seed) place;
      lines = λ seed e. sym (ap (λ xs. c.args.out.now.items ++ xs) (no_frames seed c.args.first) ∙ append-nil c.args.out.now.items);
    }

pub loop-k-preserved : goal.loop-k-preserved
loop-k-preserved c =
    let first = c.args.first in
    let k = c.loop-k.k in
    let place : suc (first + k) ≡ first + (k + 1) = omega arith in
    let before = c.args.out.now.items in
    let number = λ (seed : ℕ) (e : c.args.x ≡ number_at seed first). c.number_after-number.ensures ∙ next_number seed (first + k) c.loop-k.number (c.loop-k.invariant.next seed e) in
    record {
      next = λ seed e. number seed e ∙ ap (number_at seed) place;
      lines = λ seed e. c.in_ok-push_line.ensures
          ∙ ap (λ xs. xs ++ line_of_frame (first + k) c.number_after-number.result) (c.loop-k.invariant.lines seed e)
          ∙ append_assoc before (log_from seed first k) (line_of_frame (first + k) c.number_after-number.result)
          ∙ ap (λ ys. before ++ ys) (ap (λ n. log_from seed first k ++ line_of_frame (first + k) n) (number seed e) ∙ sym (log_more seed first k));
    }
