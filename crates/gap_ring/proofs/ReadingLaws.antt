-- The records put are those of the offers that were put, in order, so their numbers rise.
use Rattle.std.proofs.Common.{◌≡◌, ℕ, ◌+◌, ◌<◌, ◌≤◌, ◌==◌, true, false, cond, List, [], ◌∷◌, ◌++◌, map, length, filter, All, AllPairs}
use Rattle.std.proofs.Common.{Option, Some, None, refl, sym, ap, ◌∙◌, subst, arith, ⊎_elim, length-append}
use Rattle.std.proofs.lemmas.Bool.{cases_Bool, cond-true, cond-false}
use Rattle.std.proofs.lemmas.List.Concat.{flat_map-append}
use Rattle.std.proofs.lemmas.List.Elements.{All-nil, All-cons, All-weaker}
use Rattle.bench_model.specs.declared.reading.Missed.{Missed}
use Rattle.bench_model.specs.declared.reading.Item.{Item}
use Rattle.bench_model.specs.declared.reading.Item.TheVariants as item
use Rattle.gap_ring.specs.declared.entries.Offered.{Offered}
use Rattle.gap_ring.specs.Offers.{is_put, turn_of, trailing, gap_of, gap_item, lead, put_by, put_after, put_of, AreOffersAfter, AreOffers}
use Rattle.gap_ring.specs.Tiles.{number_read, numbers_read}
use Rattle.gap_ring.proofs.PlaceLaws.{all_pairs_cons}

gap_reads_none : (bus : ℕ) (gap : Option Missed) → numbers_read (gap_item bus gap) ≡ []
gap_reads_none bus None = refl
gap_reads_none bus (Some m) = refl

lead_reads_none : (before : List Offered) (o : Offered) → numbers_read (lead before o.reading o.attach) ≡ []
lead_reads_none before o =
    let gap : List Item = gap_item o.reading.bus (gap_of (trailing before)) in
    let start : List Item = item.Start o.reading.bus o.reading.number o.attach ∷ [] in
    ⊎_elim
    (λ (e : (o.attach == turn_of before) ≡ true). ap numbers_read (cond-true (o.attach == turn_of before) gap start e) ∙ gap_reads_none o.reading.bus (gap_of (trailing before)))
    (λ (e : (o.attach == turn_of before) ≡ false). ap numbers_read (cond-false (o.attach == turn_of before) gap start e))
    (cases_Bool (o.attach == turn_of before))

abbrev number_of : Offered → ℕ
number_of o = o.reading.number

read_by : (before : List Offered) (o : Offered) → numbers_read (put_by before o) ≡ cond (is_put o) (number_of o ∷ []) []
read_by before o =
    let xs : List Item = lead before o.reading o.attach ++ item.Reading o.reading ∷ [] in
    ⊎_elim
    (λ (e : is_put o ≡ true).
    ap numbers_read (cond-true (is_put o) xs [] e)
    ∙ (flat_map-append number_read (lead before o.reading o.attach) (item.Reading o.reading ∷ [])
    ∙ (ap (λ ns. ns ++ number_of o ∷ []) (lead_reads_none before o)
    ∙ sym (cond-true (is_put o) (number_of o ∷ []) [] e))))
    (λ (e : is_put o ≡ false). ap numbers_read (cond-false (is_put o) xs [] e) ∙ sym (cond-false (is_put o) (number_of o ∷ []) [] e))
    (cases_Bool (is_put o))

filter_cons : (o : Offered) (os : List Offered) → map number_of (filter is_put (o ∷ os)) ≡ cond (is_put o) (number_of o ∷ []) [] ++ map number_of (filter is_put os)
filter_cons o os =
    ⊎_elim
    (λ (e : is_put o ≡ true). rw e refl)
    (λ (e : is_put o ≡ false). rw e refl)
    (cases_Bool (is_put o))

read_after : (before os : List Offered) → numbers_read (put_after before os) ≡ map number_of (filter is_put os)
read_after before [] = refl
read_after before (o ∷ os) =
    flat_map-append number_read (put_by before o) (put_after (before ++ o ∷ []) os)
    ∙ (ap (λ ns. ns ++ numbers_read (put_after (before ++ o ∷ []) os)) (read_by before o)
    ∙ (ap (λ ns. cond (is_put o) (number_of o ∷ []) [] ++ ns) (read_after (before ++ o ∷ []) os)
    ∙ sym (filter_cons o os)))

-- the numbers of the records put are those of the offers that were put
pub records_put : (os : List Offered) → numbers_read (put_of os) ≡ map (λ o. o.reading.number) (filter is_put os)
records_put os = read_after [] os

rising_after : (bus capacity : ℕ) (before os : List Offered) → AreOffersAfter bus capacity before os
    → AllPairs (λ a b. a < b) (map number_of (filter is_put os)) × All (λ n. (length before ≤ n) × (n < length before + length os)) (map number_of (filter is_put os))
rising_after bus capacity before [] h = ((λ i j d below above. absurd (omega arith)), All-nil (λ n. (length before ≤ n) × (n < length before + 0)))
rising_after bus capacity before (o ∷ os) h =
    let rest = rising_after bus capacity (before ++ o ∷ []) os h.1 in
    let number : number_of o ≡ length before = h.0.number_is in
    let longer : length (before ++ o ∷ []) ≡ length before + 1 = length-append before (o ∷ []) in
    let N : List ℕ = map number_of (filter is_put os) in
    let Q : ℕ → Type 0 = λ n. (length before ≤ n) × (n < length before + length (o ∷ os)) in
    let P : ℕ → Type 0 = λ n. (length (before ++ o ∷ []) ≤ n) × (n < length (before ++ o ∷ []) + length os) in
    let later : All Q N = All-weaker P Q (λ n b. (omega arith, omega arith)) N rest.1 in
    let above : All (λ n. number_of o < n) N = All-weaker P (λ n. number_of o < n) (λ n b. omega arith) N rest.1 in
    let here : Q (number_of o) = (omega arith, omega arith) in
    ⊎_elim
    (λ (e : is_put o ≡ true). rw e (all_pairs_cons (λ a b. a < b) (number_of o) N above rest.0, All-cons Q (number_of o) N here later))
    (λ (e : is_put o ≡ false). rw e (rest.0, later))
    (cases_Bool (is_put o))

-- they rise, below the number of offers
pub records_rise : (bus capacity : ℕ) (os : List Offered) → AreOffers bus capacity os
    → AllPairs (λ a b. a < b) (numbers_read (put_of os)) × All (λ n. n < length os) (numbers_read (put_of os))
records_rise bus capacity os h =
    let both = rising_after bus capacity [] os h in
    let ns : List ℕ = map number_of (filter is_put os) in
    subst (λ ns. AllPairs (λ a b. a < b) ns × All (λ n. n < length os) ns) (sym (records_put os))
    (both.0, All-weaker (λ n. (0 ≤ n) × (n < 0 + length os)) (λ n. n < length os) (λ n b. omega arith) ns both.1)
