-- Totals of lines, one line or many lines more.
use Rattle.std.proofs.Common.{◌≡◌, ◌∙◌, ℕ, ◌+◌, ◌<◌, Bool, false, List, [], ◌∷◌, ◌++◌, length, Option, Some, None, refl, ap, sym, subst, arith, append_assoc, append-nil, length-append}
use Rattle.std.specs.Prelude.{◌+ℤ◌, slice_index}
use Rattle.std.specs.List.{flat_map}
use Rattle.std.proofs.lemmas.List.Elements.{filter_map-append}
use Rattle.std.proofs.lemmas.Grind.{flat_map-append}
use Rattle.std.proofs.Math.IntN.{+ℤ_assoc, +ℤ_idl, +ℤ_idr}
use Rattle.bench_model.specs.declared.database.Key.{Key}
use Rattle.bench_model.specs.declared.reading.Ask.TheVariants as ask
use Rattle.bench_model.specs.declared.reading.Plain.{Plain}
use Rattle.bench_model.specs.declared.reading.SignalValue.{SignalValue}
use Rattle.bench_model.specs.Meaning.{bench_meaning}
use Rattle.byte_forms.specs.Lines.{all_lines}
use Rattle.candump_log.specs.declared.log_line.LogLine.{LogLine}
use Rattle.candump_log.specs.declared.log_line.LogLine.TheVariants as line
use Rattle.candump_log.specs.LineOf.{line_of}
use Rattle.image_words.specs.Knowledge.{Fits}
use Rattle.image_words.specs.Whole.{all_of}
use Rattle.image_words.specs.Visits.{Run, IsGiven, IsGivenMatch}
use Rattle.mill_log.specs.GeneratedLog.{log_from, generated_log}
use Rattle.bench_mill.specs.declared.totals.Totals.{Totals}
use Rattle.bench_mill.specs.GeneratedBench.{generated_bench}
use Rattle.bench_mill.specs.Totals.{line_meaning, plains, values, raw_sum, AreTotalsOf, AreTotals, mill_totals, Adds, none, IsMessageMore, IsValueMore}

-- what a visitor that adds up makes of a name and of a value
abbrev pub named : Totals → List ℕ → Totals → Type 0
named old name new = IsMessageMore old new

abbrev pub valued : Totals → SignalValue → Totals → Type 0
valued old value new = IsValueMore old value new

-- ---- lists

plains_append : (xs ys : List (List ℕ)) → plains (xs ++ ys) ≡ plains xs ++ plains ys
unfolding plains
plains_append xs ys = filter_map-append (λ text. line_meaning (line_of text)) xs ys

values_one : (ps : List Plain) (p : Plain) → values (ps ++ p ∷ []) ≡ values ps ++ p.signals
unfolding values
values_one ps p = flat_map-append (λ (q : Plain). q.signals) ps (p ∷ []) ∙ ap (λ vs. flat_map (λ (q : Plain). q.signals) ps ++ vs) (append-nil p.signals)

sum_append : (vs ws : List SignalValue) → raw_sum (vs ++ ws) ≡ raw_sum vs +ℤ raw_sum ws
unfolding raw_sum
sum_append [] ws = sym (+ℤ_idl (raw_sum ws))
sum_append (v ∷ vs) ws = ap (λ n. v.raw +ℤ n) (sum_append vs ws) ∙ sym (+ℤ_assoc v.raw (raw_sum vs) (raw_sum ws))

plains_of_one : (text : List ℕ) (p : Plain) → line_meaning (line_of text) ≡ Some p → plains (text ∷ []) ≡ p ∷ []
unfolding plains
plains_of_one text p e = rw e refl

plains_of_none : (text : List ℕ) → line_meaning (line_of text) ≡ None → plains (text ∷ []) ≡ []
unfolding plains
plains_of_none text e = rw e refl

-- ---- what a walk adds

run_adds : (a b : Totals) (vs : List SignalValue) → Run valued a vs b →
    (b.frames ≡ a.frames) × (b.signals ≡ a.signals + length vs) × (b.sum ≡ a.sum +ℤ raw_sum vs)
unfolding Run raw_sum
run_adds a b [] h = (
  ap (λ (t : Totals). t.frames) h,
  ap (λ (t : Totals). t.signals) h ∙ omega arith,
  ap (λ (t : Totals). t.sum) h ∙ sym (+ℤ_idr a.sum),
)
run_adds a b (v ∷ vs) h =
    let rest = run_adds h.0 b vs h.2 in
    let more = h.1.signals in
    let after = rest.1 in (
      rest.0 ∙ h.1.frames,
      omega (arith, more, after),
      rest.2 ∙ ap (λ n. n +ℤ raw_sum vs) h.1.sum ∙ +ℤ_assoc a.sum v.raw (raw_sum vs),
    )

given_adds : (ps : List Plain) (p : Plain) (a b : Totals) → AreTotalsOf ps a → IsGiven named valued a p b → AreTotalsOf (ps ++ p ∷ []) b
given_adds ps p a b t g =
    let run = run_adds g.named b p.signals g.signals in
    let count : length (ps ++ p ∷ []) ≡ length ps + 1 = length-append ps (p ∷ []) in
    let signals : length (values (ps ++ p ∷ [])) ≡ length (values ps) + length p.signals = ap length (values_one ps p) ∙ length-append (values ps) p.signals in
    record {
      frames = run.0 ∙ g.name.frames ∙ ap (λ n. n + 1) t.frames ∙ sym count;
      signals = run.1 ∙ ap (λ n. n + length p.signals) (g.name.signals ∙ t.signals) ∙ sym signals;
      sum = run.2 ∙ ap (λ n. n +ℤ raw_sum p.signals) (g.name.sum ∙ t.sum) ∙ sym (ap raw_sum (values_one ps p) ∙ sum_append (values ps) p.signals);
    }

match_adds : (text : List ℕ) (meaning : Option Plain) (a b : Totals) (matched : Bool) → line_meaning (line_of text) ≡ meaning →
    IsGivenMatch named valued a meaning matched b → Adds a (text ∷ []) b
match_adds text None a b matched e h done t =
    let lists : plains (done ++ text ∷ []) ≡ plains done = plains_append done (text ∷ []) ∙ ap (λ ps. plains done ++ ps) (plains_of_none text e) ∙ append-nil (plains done) in
    let same : AreTotalsOf (plains done) b = subst (λ (u : Totals). AreTotalsOf (plains done) u) (sym h.1) t in
    subst (λ ps. AreTotalsOf ps b) (sym lists) same
match_adds text (Some p) a b matched e h done t =
    let lists : plains (done ++ text ∷ []) ≡ plains done ++ p ∷ [] = plains_append done (text ∷ []) ∙ ap (λ ps. plains done ++ ps) (plains_of_one text p e) in
    subst (λ ps. AreTotalsOf ps b) (sym lists) (given_adds (plains done) p a b t h.1)

pub walk_adds : (text : List ℕ) (a b : Totals) (matched : Bool) →
    IsGivenMatch named valued a (line_meaning (line_of text)) matched b → Adds a (text ∷ []) b
walk_adds text a b matched h = match_adds text (line_meaning (line_of text)) a b matched refl h

pub unmatched_adds : (text : List ℕ) (a : Totals) → line_meaning (line_of text) ≡ None → Adds a (text ∷ []) a
unmatched_adds text a e = match_adds text None a a false e (refl, refl)

pub frame_adds : (text bytes payload : List ℕ) (micros : ℕ) (key : Key) (a b : Totals) (matched : Bool) →
    line.Frame micros key payload ≡ line_of text → bytes ≡ payload →
    IsGivenMatch named valued a (bench_meaning generated_bench 0 (ask.Frame key) bytes) matched b → Adds a (text ∷ []) b
frame_adds text bytes payload micros key a b matched e f h =
    let same : bench_meaning generated_bench 0 (ask.Frame key) bytes ≡ line_meaning (line_of text) =
    ap (λ bs. bench_meaning generated_bench 0 (ask.Frame key) bs) f ∙ ap line_meaning e in
    walk_adds text a b matched (subst (λ m. IsGivenMatch named valued a m matched b) same h)

-- a line that is no frame means nothing
pub no_frame : (l : LogLine) → ((micros : ℕ) (key : Key) (payload : List ℕ) → ¬ (l ≡ line.Frame micros key payload)) → line_meaning l ≡ None
no_frame (line.Frame micros key payload) h = absurd (h micros key payload refl)
no_frame (line.Remote micros key) h = refl
no_frame (line.Error micros id) h = refl
no_frame line.Bad h = refl

-- ---- an image that encodes the bench fits

pub one_bus : (image : List ℕ) → Fits (all_of image) image generated_bench → 0 < slice_index image 1
one_bus image f = let buses : 1 ≡ slice_index image 1 = f.buses in omega (arith, buses)

-- ---- many lines

pub nothing_adds : (a : Totals) → Adds a [] a
nothing_adds a done t = subst (λ lines. AreTotals lines a) (sym (append-nil done)) t

pub then_adds : (a b c : Totals) (xs ys : List (List ℕ)) → Adds a xs b → Adds b ys c → Adds a (xs ++ ys) c
then_adds a b c xs ys h k done t = subst (λ lines. AreTotals lines c) (append_assoc done xs ys) (k (done ++ xs) (h done t))

pub none_yet : AreTotals [] none
unfolding plains values raw_sum
none_yet = record { frames = refl; signals = refl; sum = refl }

-- what the lines that are left come to, all come to
abbrev pub Leaves : Totals → Totals → List (List ℕ) → List ℕ → Type 0
Leaves first now all rest = (after : Totals) → Adds now (all_lines rest) after → Adds first all after

pub lines_left : (first old new : Totals) (all : List (List ℕ)) (text rest after : List ℕ) → Leaves first old all rest →
    all_lines rest ≡ text ∷ all_lines after → Adds old (text ∷ []) new → Leaves first new all after
lines_left first old new all text rest after lead cut one end h =
    lead end (subst (λ lines. Adds old lines end) (sym cut) (then_adds old new end (text ∷ []) (all_lines after) one h))

pub lines_end : (first now : Totals) (all : List (List ℕ)) (rest : List ℕ) → Leaves first now all rest → rest ≡ [] → Adds first all now
unfolding all_lines
lines_end first now all rest lead e = lead now (subst (λ (bytes : List ℕ). Adds now (all_lines bytes) now) (sym e) (nothing_adds now))

-- the next piece
pub piece_adds : (seed first count : ℕ) (old new : Totals) (bytes : List ℕ) →
    all_lines (log_from seed 0 (first + count)) ≡ all_lines (log_from seed 0 first) ++ all_lines (log_from seed (0 + first) count) →
    bytes ≡ log_from seed first count → AreTotals (all_lines (log_from seed 0 first)) old → Adds old (all_lines bytes) new →
    AreTotals (all_lines (log_from seed 0 (first + count))) new
piece_adds seed first count old new bytes joined e t h =
    let place : 0 + first ≡ first = omega arith in
    let lines : all_lines (log_from seed 0 first) ++ all_lines bytes ≡ all_lines (log_from seed 0 (first + count)) =
    ap (λ bs. all_lines (log_from seed 0 first) ++ all_lines bs) (e ∙ sym (ap (λ a. log_from seed a count) place)) ∙ sym joined in
    subst (λ ls. AreTotals ls new) lines (h (all_lines (log_from seed 0 first)) t)

pub none_made : (seed : ℕ) → AreTotals (all_lines (log_from seed 0 0)) none
unfolding log_from all_lines
none_made seed = none_yet

-- the three numbers of the whole log
pub all_counted : (frames : ℕ) (t : Totals) → AreTotals (all_lines (generated_log frames)) t → t ≡ mill_totals frames
unfolding mill_totals
all_counted frames t h = rw (sym h.frames, sym h.signals, sym h.sum) refl
