-- The decoded list goes on line by line, and its records are numbered by their places.
use Rattle.std.proofs.Common.{◌≡◌, ◌∙◌, sym, ap, ℕ, zero, suc, ◌+◌, List, [], ◌∷◌, ◌++◌, length, map, refl, arith, append_assoc, length-append, Some}
use Rattle.std.proofs.lemmas.List.{append-nil}
use Rattle.std.specs.List.{enumerate_from, slice_get}
use Rattle.bench_model.specs.declared.database.Kind.{Kind}
use Rattle.bench_model.specs.declared.database.Bench.{Bench}
use Rattle.bench_model.specs.declared.reading.Body.{Body}
use Rattle.bench_model.specs.declared.reading.Reading.{Reading}
use Rattle.candump_log.specs.declared.log_line.LogLine.{LogLine}
use Rattle.decoded_list.specs.Records.{Meaning, Place, own_body, transport_bodies, brought_on, record_of, records_at, stamp_of}
use Rattle.decoded_list.specs.Decoded.{meaning_in, decoded, decoded_after, IsNumbered, IsOfALine}

regrouped : {X : Type 0} (here rest more all : List X) → all ≡ rest ++ more → here ++ all ≡ (here ++ rest) ++ more
regrouped here rest more all e = rw e (sym (append_assoc here rest more))

after_more : (bus : ℕ) (k : Kind) (benches : List Bench) (before : List LogLine) (number : ℕ) (versions later : List ℕ) (lines more : List LogLine) →
    length versions ≡ length lines →
    decoded_after bus k benches before number (versions ++ later) (lines ++ more)
    ≡ decoded_after bus k benches before number versions lines
    ++ decoded_after bus k benches (before ++ lines) (number + length (decoded_after bus k benches before number versions lines)) later more
unfolding decoded_after
after_more bus k benches before number [] later [] more same =
    let none : number + 0 ≡ number = omega arith in rw (append-nil before, none) refl
after_more bus k benches before number [] later (l ∷ ls) more same = absurd (omega arith)
after_more bus k benches before number (v ∷ vs) later [] more same = absurd (omega arith)
after_more bus k benches before number (v ∷ vs) later (l ∷ ls) more same =
    let here : List Reading = records_at (meaning_in bus (slice_get benches v)) k (record { bus = bus; version = v }) before number l in
    let rest : List Reading = decoded_after bus k benches (before ++ l ∷ []) (number + length here) vs ls in
    let lines_so_far : (before ++ l ∷ []) ++ ls ≡ before ++ l ∷ ls = append_assoc before (l ∷ []) ls in
    let numbers_so_far : number + length here + length rest ≡ number + length (here ++ rest) = omega (arith, length-append here rest) in
    regrouped here rest _ _ (after_more bus k benches (before ++ l ∷ []) (number + length here) vs later ls more (omega arith)
    ∙ ap (λ (more_records : List Reading). rest ++ more_records) (rw (lines_so_far, numbers_so_far) refl))

pub goes_on : (bus : ℕ) (k : Kind) (benches : List Bench) (versions later : List ℕ) (lines more : List LogLine) → length versions ≡ length lines →
    decoded bus k benches (versions ++ later) (lines ++ more)
    ≡ decoded bus k benches versions lines ++ decoded_after bus k benches lines (length (decoded bus k benches versions lines)) later more
goes_on bus k benches versions later lines more same =
    let none : 0 + length (decoded bus k benches versions lines) ≡ length (decoded bus k benches versions lines) = omega arith in
    after_more bus k benches [] 0 versions later lines more same
    ∙ ap (λ (n : ℕ). decoded bus k benches versions lines ++ decoded_after bus k benches lines n later more) none

one_line : (bus : ℕ) (k : Kind) (benches : List Bench) (before : List LogLine) (number version : ℕ) (l : LogLine) →
    decoded_after bus k benches before number (version ∷ []) (l ∷ [])
    ≡ records_at (meaning_in bus (slice_get benches version)) k (record { bus = bus; version = version }) before number l
unfolding decoded_after
one_line bus k benches before number version l = append-nil (records_at (meaning_in bus (slice_get benches version)) k (record { bus = bus; version = version }) before number l)

pub goes_on_by_one : (bus : ℕ) (k : Kind) (benches : List Bench) (versions : List ℕ) (lines : List LogLine) (version : ℕ) (l : LogLine) → length versions ≡ length lines →
    decoded bus k benches (versions ++ version ∷ []) (lines ++ l ∷ [])
    ≡ decoded bus k benches versions lines
    ++ records_at (meaning_in bus (slice_get benches version)) k (record { bus = bus; version = version }) lines (length (decoded bus k benches versions lines)) l
goes_on_by_one bus k benches versions lines version l same =
    goes_on bus k benches versions (version ∷ []) lines (l ∷ []) same
    ∙ ap (λ (rs : List Reading). decoded bus k benches versions lines ++ rs) (one_line bus k benches lines (length (decoded bus k benches versions lines)) version l)

numbered-append : (bus n : ℕ) (xs ys : List Reading) → IsNumbered bus n xs → IsNumbered bus (n + length xs) ys → IsNumbered bus n (xs ++ ys)
numbered-append bus n [] ys h g i r e = let h2 = g i r e in (omega (arith, h2.0), h2.1)
numbered-append bus n (x ∷ xs) ys h g zero r e = h zero r e
numbered-append bus n (x ∷ xs) ys h g (suc i) r e =
    let tail = numbered-append bus (n + 1) xs ys
    (λ j s f. let one = h (suc j) s f in (omega (arith, one.0), one.1))
    (λ j s f. let one = g j s f in (omega (arith, one.0), one.1)) i r e in
    (omega (arith, tail.0), tail.1)

numbered_records : (place : Place) (micros n : ℕ) (bodies : List Body) → IsNumbered place.bus n (map (record_of place micros) (enumerate_from n bodies))
numbered_records place micros n [] i r e = cc
numbered_records place micros n (b ∷ bs) zero r e =
    let is : record_of place micros (n, b) ≡ r = cc in rw (← is) (omega arith, refl)
numbered_records place micros n (b ∷ bs) (suc i) r e =
    let tail = numbered_records place micros (n + 1) bs i r e in (omega (arith, tail.0), tail.1)

numbered_after : (bus : ℕ) (k : Kind) (benches : List Bench) (before : List LogLine) (number : ℕ) (versions : List ℕ) (lines : List LogLine) →
    IsNumbered bus number (decoded_after bus k benches before number versions lines)
unfolding decoded_after
numbered_after bus k benches before number versions [] i r e = cc
numbered_after bus k benches before number [] (l ∷ ls) i r e = cc
numbered_after bus k benches before number (v ∷ vs) (l ∷ ls) i r e =
    let place : Place = record { bus = bus; version = v } in
    let meaning : Meaning = meaning_in bus (slice_get benches v) in
    let here : List Reading = records_at meaning k place before number l in
    numbered-append bus number here (decoded_after bus k benches (before ++ l ∷ []) (number + length here) vs ls)
    (numbered_records place (stamp_of l) number (own_body meaning l ∷ transport_bodies meaning (brought_on k before l)))
    (numbered_after bus k benches (before ++ l ∷ []) (number + length here) vs ls) i r e

pub numbered : (bus : ℕ) (k : Kind) (benches : List Bench) (versions : List ℕ) (lines : List LogLine) → IsNumbered bus 0 (decoded bus k benches versions lines)
numbered bus k benches versions lines = numbered_after bus k benches [] 0 versions lines

here_or_later : {X : Type 0} (P : X → Type 0) (xs ys : List X) → ((i : ℕ) (x : X) → slice_get xs i ≡ Some x → P x) →
    ((i : ℕ) (x : X) → slice_get ys i ≡ Some x → P x) → (i : ℕ) (x : X) → slice_get (xs ++ ys) i ≡ Some x → P x
here_or_later P [] ys h g i x e = g i x e
here_or_later P (y ∷ xs) ys h g zero x e = h zero x e
here_or_later P (y ∷ xs) ys h g (suc i) x e = here_or_later P xs ys (λ j z f. h (suc j) z f) g i x e

-- the records of a line have its version and its stamp
abbrev IsStamped : ℕ → ℕ → Reading → Type 0
IsStamped version micros r = (r.version ≡ version) × (r.micros ≡ micros)

stamped_records : (place : Place) (micros n : ℕ) (bodies : List Body) (i : ℕ) (r : Reading) →
    slice_get (map (record_of place micros) (enumerate_from n bodies)) i ≡ Some r → IsStamped place.version micros r
stamped_records place micros n [] i r e = cc
stamped_records place micros n (b ∷ bs) zero r e = let is : record_of place micros (n, b) ≡ r = cc in rw (← is) (refl, refl)
stamped_records place micros n (b ∷ bs) (suc i) r e = stamped_records place micros (n + 1) bs i r e

of_this_line : (v : ℕ) (vs : List ℕ) (l : LogLine) (ls : List LogLine) (r : Reading) → IsStamped v (stamp_of l) r → IsOfALine (v ∷ vs) (l ∷ ls) r
of_this_line v vs l ls r h = (zero, l, refl, ap Some (sym h.0), h.1)

of_a_later_line : (v : ℕ) (vs : List ℕ) (l : LogLine) (ls : List LogLine) (r : Reading) → IsOfALine vs ls r → IsOfALine (v ∷ vs) (l ∷ ls) r
of_a_later_line v vs l ls r h = (suc h.0, h.1, h.2, h.3, h.4)

of_a_line_after : (bus : ℕ) (k : Kind) (benches : List Bench) (before : List LogLine) (number : ℕ) (versions : List ℕ) (lines : List LogLine) (i : ℕ) (r : Reading) →
    slice_get (decoded_after bus k benches before number versions lines) i ≡ Some r → IsOfALine versions lines r
unfolding decoded_after
of_a_line_after bus k benches before number versions [] i r e = cc
of_a_line_after bus k benches before number [] (l ∷ ls) i r e = cc
of_a_line_after bus k benches before number (v ∷ vs) (l ∷ ls) i r e =
    let place : Place = record { bus = bus; version = v } in
    let meaning : Meaning = meaning_in bus (slice_get benches v) in
    let here : List Reading = records_at meaning k place before number l in
    here_or_later (IsOfALine (v ∷ vs) (l ∷ ls)) here (decoded_after bus k benches (before ++ l ∷ []) (number + length here) vs ls)
    (λ j s f. of_this_line v vs l ls s (stamped_records place (stamp_of l) number (own_body meaning l ∷ transport_bodies meaning (brought_on k before l)) j s f))
    (λ j s f. of_a_later_line v vs l ls s (of_a_line_after bus k benches (before ++ l ∷ []) (number + length here) vs ls j s f)) i r e

pub of_a_line : (bus : ℕ) (k : Kind) (benches : List Bench) (versions : List ℕ) (lines : List LogLine) (i : ℕ) (r : Reading) →
    slice_get (decoded bus k benches versions lines) i ≡ Some r → IsOfALine versions lines r
of_a_line bus k benches versions lines i r e = of_a_line_after bus k benches [] 0 versions lines i r e
