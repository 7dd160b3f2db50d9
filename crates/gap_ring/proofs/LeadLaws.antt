-- A Start goes before a record only where the attach word is above the turn of the last record that was put: it has the attach word as its turn, and the record's number.
use Rattle.std.proofs.Common.{◌≡◌, ◌≢◌, ℕ, ◌<◌, ◌≤◌, ◌==◌, false, true≢false, List, [], ◌∷◌, length, All, Option, Some, None}
use Rattle.std.proofs.Common.{refl, sym, ap, ◌∙◌, arith, eq-eqb}
use Rattle.std.proofs.lemmas.Bool.{cond_both}
use Rattle.bench_model.specs.declared.reading.Reading.{Reading}
use Rattle.bench_model.specs.declared.reading.Missed.{Missed}
use Rattle.bench_model.specs.declared.reading.Item.{Item}
use Rattle.bench_model.specs.declared.reading.Item.TheVariants as item
use Rattle.gap_ring.specs.declared.entries.Offered.{Offered}
use Rattle.gap_ring.specs.Offers.{turn_of, trailing, gap_of, gap_item, lead}
use Rattle.gap_ring.specs.Turns.{starts_turn}
use Rattle.gap_ring.proofs.PlaceLaws.{head_same}
use Rattle.gap_ring.proofs.OneMoreLaws.{turn_bounded}

abbrev turn_in : Item → ℕ
turn_in (item.Start bus number turn) = turn
turn_in (item.Reading r) = 0
turn_in (item.Gap bus m) = 0
turn_in (item.End bus number) = 0

abbrev number_in : Item → ℕ
number_in (item.Start bus number turn) = number
number_in (item.Reading r) = 0
number_in (item.Gap bus m) = 0
number_in (item.End bus number) = 0

no_start : (b bus number turn : ℕ) (gap : Option Missed) → gap_item b gap ≡ item.Start bus number turn ∷ [] → ⊥
no_start b bus number turn None e =
    let count : ℕ = length (item.Start bus number turn ∷ []) in
    let same : 0 ≡ count = ap (λ (l : List Item). length l) e in
    omega (arith, same)
no_start b bus number turn (Some m) e =
    let same : item.Gap b m ≡ item.Start bus number turn = head_same (item.Gap b m) (item.Start bus number turn) [] [] e in
    true≢false (sym (ap (starts_turn turn) same ∙ eq-eqb turn turn refl))

pub start_begins : (offers : List Offered) (reading : Reading) (attach bus number turn : ℕ) → All (λ o. o.attach ≤ attach) offers
    → lead offers reading attach ≡ item.Start bus number turn ∷ [] → (turn ≡ attach) × (turn_of offers < turn) × (number ≡ reading.number)
start_begins offers reading attach bus number turn high is =
    let start : Item = item.Start reading.bus reading.number attach in
    let wanted : Item = item.Start bus number turn in
    cond_both (attach == turn_of offers) (gap_item reading.bus (gap_of (trailing offers))) (start ∷ [])
    (λ (l : List Item). l ≡ wanted ∷ [] → (turn ≡ attach) × (turn_of offers < turn) × (number ≡ reading.number))
    (λ _ e. absurd (no_start reading.bus bus number turn (gap_of (trailing offers)) e))
    (λ (other : (attach == turn_of offers) ≡ false) e.
    let same : start ≡ wanted = head_same start wanted [] [] e in
    let its : attach ≡ turn = ap turn_in same in
    let low : turn_of offers ≤ attach = turn_bounded attach offers high in
    let apart : attach ≢ turn_of offers = λ q. true≢false (sym (eq-eqb attach (turn_of offers) q) ∙ other) in
    (sym its, omega arith, sym (ap number_in same)))
    is
