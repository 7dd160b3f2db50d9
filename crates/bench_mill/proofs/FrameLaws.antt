-- The lines of the generated log say the frames of the generator.
use Rattle.std.proofs.Common.{◌≡◌, ◌∙◌, ℕ, zero, suc, ◌+◌, ◌*◌, ◌^◌, ◌<◌, ◌≤◌, List, [], ◌∷◌, ◌++◌, map, refl, ap, arith}
use Rattle.std.specs.List.{range_with_len}
use Rattle.std.proofs.lemmas.Nat.{mod_below}
use Rattle.std.proofs.lemmas.List.{map-append, append-nil}
use Rattle.byte_forms.specs.Lines.{all_lines}
use Rattle.candump_log.specs.declared.log_line.LogLine.{LogLine}
use Rattle.candump_log.specs.Line.{IsLine}
use Rattle.candump_log.specs.LineOf.{line_of}
use Rattle.mill_log.specs.GeneratedLog.{number_at, frame_number, line_of_frame, log_from, generated_log}
use Rattle.bench_mill.specs.GeneratedFrames.{most_frames, generated_frame, generated_frames}
use Rattle.bench_mill.proofs.LineLaws.{line_text, line_is, lines_of_frame}

-- what the laws of the crates below say
abbrev Pieces : Type 0
Pieces = (seed first n m : ℕ) →
    all_lines (log_from seed first (n + m)) ≡ all_lines (log_from seed first n) ++ all_lines (log_from seed (first + n) m)

abbrev OneLine : Type 0
OneLine = (text : List ℕ) (l : LogLine) → IsLine text l → line_of text ≡ l

pub number_small : (seed i : ℕ) → frame_number seed i < 2 ^ 64
unfolding number_at
number_small seed i = mod_below (number_at seed i * 6364136223846793005 + 1442695040888963407) (2 ^ 64) (omega arith)

frame_says : OneLine → (seed i : ℕ) → i < most_frames →
    map line_of (all_lines (log_from seed i 1)) ≡ generated_frame seed i ∷ []
unfolding log_from
frame_says one seed i within =
    let x = frame_number seed i in
    ap (λ bytes. map line_of (all_lines bytes)) (append-nil (line_of_frame i x))
    ∙ ap (map line_of) (lines_of_frame i x within (number_small seed i))
    ∙ ap (λ l. l ∷ []) (one (line_text i x) (generated_frame seed i) (line_is i x within (number_small seed i)))

none_says : (seed a : ℕ) → map line_of (all_lines (log_from seed a 0)) ≡ []
unfolding log_from all_lines
none_says seed a = refl

frames_say : Pieces → OneLine → (seed a n : ℕ) → a + n ≤ most_frames →
    map line_of (all_lines (log_from seed a n)) ≡ map (generated_frame seed) (range_with_len a n)
frames_say pieces one seed a zero within = none_says seed a
frames_say pieces one seed a (suc n) within =
    let count : suc n ≡ 1 + n = omega arith in
    let first = all_lines (log_from seed a 1) in
    let rest = all_lines (log_from seed (a + 1) n) in
    ap (λ m. map line_of (all_lines (log_from seed a m))) count
    ∙ ap (map line_of) (pieces seed a 1 n)
    ∙ map-append line_of first rest
    ∙ ap (λ ls. ls ++ map line_of rest) (frame_says one seed a (omega arith))
    ∙ ap (λ ls. generated_frame seed a ∷ ls) (frames_say pieces one seed (a + 1) n (omega arith))

pub log_says : Pieces → OneLine → (frames : ℕ) → frames ≤ most_frames →
    map line_of (all_lines (generated_log frames)) ≡ generated_frames frames
log_says pieces one frames within = frames_say pieces one frames 0 frames (omega arith)
