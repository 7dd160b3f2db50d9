-- The text of more buses goes on where that of the first of them stops, and what is said of a log that stopped is a prefix
-- of what is said of the whole log.
use Rattle.std.proofs.Common.{◌≡◌, ℕ, suc, ◌+◌, ◌==◌, Bool, true, false, List, [], ◌∷◌, ◌++◌, length, map, refl, sym, ap, ◌∙◌, append_assoc, arith, if◌then◌else◌}
use Rattle.std.proofs.lemmas.List.{append-nil, map-append}
use Rattle.byte_forms.specs.Lines.{all_lines, onto_first}
use Rattle.bench_model.specs.declared.database.Bench.{Bench}
use Rattle.candump_log.specs.declared.log_line.LogLine.{LogLine}
use Rattle.candump_log.specs.LineOf.{line_of}
use Rattle.candump_log.specs.LogLines.{whole_lines, onto_whole}
use Rattle.subscriber_text.specs.Wants.{WantList}
use Rattle.bus_text.specs.declared.bus.BusPlace.{BusPlace}
use Rattle.bus_text.specs.BusText.{bus_at, bus_text, text_so_far}
use Rattle.bench_text.specs.BenchText.{whole_text, part_text, texts_from, bench_text}

pub texts_none : (w : WantList) (bench : Bench) → bench_text w bench [] ≡ []
unfolding texts_from
texts_none w bench = refl

texts_append : (w : WantList) (bench : Bench) (place : ℕ) (logs more : List (List ℕ))
    → texts_from w bench place (logs ++ more) ≡ texts_from w bench place logs ++ texts_from w bench (place + length logs) more
unfolding texts_from
texts_append w bench place [] more = let e : place ≡ place + 0 = omega arith in ap (λ p. texts_from w bench p more) e
texts_append w bench place (bytes ∷ logs) more =
    let text = whole_text w bench place bytes in
    let e : (place + 1) + length logs ≡ place + suc (length logs) = omega arith in
    ap (λ (t : List ℕ). text ++ t) (texts_append w bench (place + 1) logs more)
    ∙ sym (append_assoc text (texts_from w bench (place + 1) logs) (texts_from w bench ((place + 1) + length logs) more))
    ∙ ap (λ p. (text ++ texts_from w bench (place + 1) logs) ++ texts_from w bench p more) e

texts_first : (w : WantList) (bench : Bench) (place : ℕ) (bytes : List ℕ) (more : List (List ℕ))
    → texts_from w bench place (bytes ∷ more) ≡ whole_text w bench place bytes ++ texts_from w bench (place + 1) more
unfolding texts_from
texts_first w bench place bytes more = refl

pub texts_end : (w : WantList) (bench : Bench) (place : ℕ) → texts_from w bench place [] ≡ []
unfolding texts_from
texts_end w bench place = refl

-- the texts of the first buses, that of the next one, and those of the buses behind it
pub texts_parted : (w : WantList) (bench : Bench) (logs more : List (List ℕ)) (bytes : List ℕ)
    → bench_text w bench (logs ++ bytes ∷ more) ≡ bench_text w bench logs ++ (whole_text w bench (length logs) bytes ++ texts_from w bench (length logs + 1) more)
texts_parted w bench logs more bytes =
    let e : 0 + length logs ≡ length logs = omega arith in
    texts_append w bench 0 logs (bytes ∷ more) ∙ ap (λ p. bench_text w bench logs ++ texts_from w bench p (bytes ∷ more)) e
    ∙ ap (λ (t : List ℕ). bench_text w bench logs ++ t) (texts_first w bench (length logs) bytes more)

-- the text of one bus more
pub texts_one : (w : WantList) (bench : Bench) (logs : List (List ℕ)) (bytes : List ℕ)
    → bench_text w bench (logs ++ bytes ∷ []) ≡ bench_text w bench logs ++ whole_text w bench (length logs) bytes
texts_one w bench logs bytes =
    let text = whole_text w bench (length logs) bytes in
    texts_parted w bench logs [] bytes
    ∙ ap (λ (t : List ℕ). bench_text w bench logs ++ (text ++ t)) (texts_end w bench (length logs + 1))
    ∙ ap (λ (t : List ℕ). bench_text w bench logs ++ t) (append-nil text)

pub texts_more : (w : WantList) (bench : Bench) (logs more : List (List ℕ))
    → (rest : List ℕ) × (bench_text w bench (logs ++ more) ≡ bench_text w bench logs ++ rest)
texts_more w bench logs more = (texts_from w bench (0 + length logs) more, texts_append w bench 0 logs more)

feed_prefix : (b : ℕ) (whole all more : List (List ℕ)) (test : Bool) → all ≡ whole ++ more
    → (rest : List (List ℕ)) × ((if test then [] ∷ all else onto_first b all) ≡ (if test then [] ∷ whole else onto_whole b whole) ++ rest)
feed_prefix b whole all more true e = (more, ap (λ (l : List (List ℕ)). [] ∷ l) e)
feed_prefix b [] all more false e = (onto_first b all, refl)
feed_prefix b (line ∷ lines) all more false e = (more, ap (onto_first b) e)

-- the whole lines of the first bytes are the first of all lines
first_lines : (took left : List ℕ) → (rest : List (List ℕ)) × (all_lines (took ++ left) ≡ whole_lines took ++ rest)
unfolding all_lines whole_lines
first_lines [] left = (all_lines left, refl)
first_lines (b ∷ bytes) left =
    let r = first_lines bytes left in
    feed_prefix b (whole_lines bytes) (all_lines (bytes ++ left)) r.0 (b == 10) r.1

-- what the law of the text of a bus says
abbrev pub IsPrefix : Type 0
IsPrefix = (w : WantList) (bench : Bench) (bus : BusPlace) (lines more : List LogLine) → (rest : List ℕ) × (bus_text w bench bus (lines ++ more) ≡ text_so_far w bench bus lines ++ rest)

pub part_prefix : IsPrefix → (w : WantList) (bench : Bench) (place : ℕ) (took left : List ℕ)
    → (rest : List ℕ) × (whole_text w bench place (took ++ left) ≡ part_text w bench place took ++ rest)
part_prefix prefix w bench place took left =
    let r = first_lines took left in
    let bus = bus_at bench place in
    let p = prefix w bench bus (map line_of (whole_lines took)) (map line_of r.0) in
    (p.0, ap (λ lines. bus_text w bench bus (map line_of lines)) r.1 ∙ ap (bus_text w bench bus) (map-append line_of (whole_lines took) r.0) ∙ p.1)

-- the text where a log stopped is a prefix of that of the bench
pub fault_prefix : IsPrefix → (w : WantList) (bench : Bench) (logs more : List (List ℕ)) (took left : List ℕ)
    → (rest : List ℕ) × (bench_text w bench (logs ++ (took ++ left) ∷ more) ≡ (bench_text w bench logs ++ part_text w bench (length logs) took) ++ rest)
fault_prefix prefix w bench logs more took left =
    let p = part_prefix prefix w bench (length logs) took left in
    let before = bench_text w bench logs in
    let part = part_text w bench (length logs) took in
    let behind = texts_from w bench (length logs + 1) more in (
      p.0 ++ behind,
      texts_parted w bench logs more (took ++ left) ∙ ap (λ (t : List ℕ). before ++ (t ++ behind)) p.1
          ∙ ap (λ (t : List ℕ). before ++ t) (append_assoc part p.0 behind) ∙ sym (append_assoc before part (p.0 ++ behind)),
    )
