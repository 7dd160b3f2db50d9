-- Each frame of the generator is one of a message with four signals.
use Rattle.std.proofs.Common.{◌≡◌, ◌∙◌, ℕ, zero, suc, ◌+◌, ◌*◌, ◌/◌, ◌^◌, ◌<◌, ◌≤◌, inl, inr, List, [], ◌∷◌, length, map, Some, refl, ap, arith, length-append}
use Rattle.std.specs.Prelude.{◌==◌, false, find}
use Rattle.std.specs.List.{filter_map, cons_option, range_with_len, AllByRecursion}
use Rattle.std.specs.Option.{option_map}
use Rattle.std.proofs.lemmas.Bool.{cases_eq, cond-true, cond-false, eq-eqb, ne_eqb}
use Rattle.std.proofs.lemmas.List.FromFn.{length-map-range_with_len}
use Rattle.byte_forms.specs.Lines.{all_lines}
use Rattle.multiplex_tree.specs.Activity.{is_active_within}
use Rattle.bench_model.specs.declared.database.Key.{Key}
use Rattle.bench_model.specs.declared.reading.Plain.{Plain}
use Rattle.bench_model.specs.Raw.{raw_value, places_from}
use Rattle.bench_model.specs.Meaning.{has_key, active_values, message_meaning}
use Rattle.candump_log.specs.declared.log_line.LogLine.{LogLine}
use Rattle.candump_log.specs.LineOf.{line_of}
use Rattle.mill_log.specs.GeneratedLog.{frame_number, low_bytes, generated_log}
use Rattle.mill_database.specs.GeneratedText.{message_count, id_of}
use Rattle.mill_database.specs.GeneratedDatabase.{generated_message, generated_database}
use Rattle.bench_mill.specs.GeneratedFrames.{generated_frame, generated_frames}
use Rattle.bench_mill.specs.Totals.{line_meaning, plains, values, mill_totals}
use Rattle.bench_mill.proofs.FrameLaws.{number_small}

-- message j is found by its identifier
abbrev key_of : ℕ → Key
key_of j = record { extended = false; id = id_of j }

found : (a n j : ℕ) → a ≤ j → j < a + n →
    find (has_key (key_of j)) (map generated_message (range_with_len a n)) ≡ Some (generated_message j)
found a zero j low high = absurd (omega arith)
found a (suc n) j low high =
    let rest = find (has_key (key_of j)) (map generated_message (range_with_len (a + 1) n)) in
    let here = generated_message a in
    elim (cases_eq a j) [
      | inl same ↦ cond-true (id_of a == id_of j) (Some here) rest (eq-eqb (id_of a) (id_of j) (ap id_of same))
          ∙ ap (λ m. Some (generated_message m)) same
      | inr other ↦ cond-false (id_of a == id_of j) (Some here) rest (ne_eqb (id_of a) (id_of j) (λ e. other (omega arith)))
          ∙ found (a + 1) n j (omega (arith, other)) (omega arith)
    ]

-- its four signals of 16 bits lie within eight bytes, and none has a parent
four_signals : (j x : ℕ) → length (active_values (low_bytes 8 x) (generated_message j)) ≡ 4
unfolding active_values raw_value places_from is_active_within
four_signals j x = refl

-- a line that is a frame of such a message
abbrev HasFour : LogLine → Type 0
HasFour l = (p : Plain) × (line_meaning l ≡ Some p) × (length p.signals ≡ 4)

frame_matched : (seed i : ℕ) → HasFour (generated_frame seed i)
unfolding generated_database
frame_matched seed i =
    let x = frame_number seed i in
    let small = number_small seed i in
    let j = x / 2 ^ 58 in
    let means = message_meaning (low_bytes 8 x) in
    (means (generated_message j), ap (option_map means) (found 0 message_count j (omega arith) (omega arith)), four_signals j x)

frames_matched : (seed a n : ℕ) → AllByRecursion HasFour (map (generated_frame seed) (range_with_len a n))
frames_matched seed a zero = tt
frames_matched seed a (suc n) = (frame_matched seed a, frames_matched seed (a + 1) n)

-- as many frames as lines, and four signals each
all_counted : (ls : List LogLine) → AllByRecursion HasFour ls →
    (length (filter_map line_meaning ls) ≡ length ls) × (length (values (filter_map line_meaning ls)) ≡ 4 * length ls)
unfolding values
all_counted [] all = (refl, refl)
all_counted (l ∷ ls) all =
    let p = all.0.0 in
    let four = all.0.2 in
    let rest = all_counted ls all.1 in
    let more = filter_map line_meaning ls in
    rw all.0.1 (ap suc rest.0, length-append p.signals (values more) ∙ omega (arith, four, rest.1))

by_lines : (texts : List (List ℕ)) → plains texts ≡ filter_map line_meaning (map line_of texts)
unfolding plains
by_lines [] = refl
by_lines (text ∷ texts) = ap (cons_option (line_meaning (line_of text))) (by_lines texts)

pub log_matched : (frames : ℕ) → map line_of (all_lines (generated_log frames)) ≡ generated_frames frames →
    ((mill_totals frames).frames ≡ frames) × ((mill_totals frames).signals ≡ 4 * frames)
unfolding mill_totals
log_matched frames said =
    let lines = all_lines (generated_log frames) in
    let made = generated_frames frames in
    let ps : plains lines ≡ filter_map line_meaning made = by_lines lines ∙ ap (filter_map line_meaning) said in
    let all = all_counted made (frames_matched frames 0 frames) in
    let count : length made ≡ frames = length-map-range_with_len (generated_frame frames) 0 frames in
    (ap length ps ∙ all.0 ∙ count, ap (λ qs. length (values qs)) ps ∙ all.1 ∙ ap (λ n. 4 * n) count)
