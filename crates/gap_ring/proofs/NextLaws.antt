-- The item that waits longest is of the ring's bus, and a record's number is above those of the records taken before.
use Rattle.std.proofs.Common.{◌≡◌, ℕ, ◌<◌, ◌==◌, List, [], ◌∷◌, ◌++◌, length, All, AllPairs}
use Rattle.std.proofs.Common.{Option, Some, None, refl, sym, ap, ◌∙◌, subst, arith, append-nil, append_assoc, ⊎_elim}
use Rattle.std.proofs.lemmas.Bool.{cond_both}
use Rattle.std.proofs.lemmas.List.Concat.{flat_map-append}
use Rattle.std.proofs.lemmas.List.Elements.{All-nil, All-cons, All-head, All-append, All-weaker}
use Rattle.bench_model.specs.declared.reading.Reading.{Reading}
use Rattle.bench_model.specs.declared.reading.Missed.{Missed}
use Rattle.bench_model.specs.declared.reading.Item.{Item}
use Rattle.bench_model.specs.declared.reading.Item.TheVariants as item
use Rattle.gap_ring.specs.declared.entries.Offered.{Offered}
use Rattle.gap_ring.specs.declared.view.Putting.{Putting}
use Rattle.gap_ring.specs.declared.view.Taking.{Taking}
use Rattle.gap_ring.specs.Offers.{is_put, turn_of, trailing, gap_of, gap_item, lead, put_by, put_after, put_of, AreOffersAfter}
use Rattle.gap_ring.specs.Tiles.{number_read, numbers_read}
use Rattle.gap_ring.specs.Turns.{items_taken}
use Rattle.gap_ring.specs.Rule.{IsLead, PutRule, most_offers}
use Rattle.gap_ring.specs.Steps.{IsOfBus, IsNext, record_number}
use Rattle.gap_ring.proofs.PlaceLaws.{all_left, all_right, all_pairs_left}
use Rattle.gap_ring.proofs.ReadingLaws.{records_rise}

gap_of_bus : (bus b : ℕ) (gap : Option Missed) → b ≡ bus → All (IsOfBus bus) (gap_item b gap)
gap_of_bus bus b None is = All-nil (IsOfBus bus)
gap_of_bus bus b (Some m) is = All-cons (IsOfBus bus) (item.Gap b m) [] is (All-nil (IsOfBus bus))

lead_of_bus : (bus : ℕ) (before : List Offered) (reading : Reading) (attach : ℕ) → reading.bus ≡ bus → All (IsOfBus bus) (lead before reading attach)
lead_of_bus bus before reading attach is =
    let P : Item → Type 0 = IsOfBus bus in
    let gap : List Item = gap_item reading.bus (gap_of (trailing before)) in
    let start : Item = item.Start reading.bus reading.number attach in
    cond_both (attach == turn_of before) gap (start ∷ []) (All P)
    (λ _. gap_of_bus bus reading.bus (gap_of (trailing before)) is)
    (λ _. All-cons P start [] is (All-nil P))

put_by_of_bus : (bus : ℕ) (before : List Offered) (o : Offered) → o.reading.bus ≡ bus → All (IsOfBus bus) (put_by before o)
put_by_of_bus bus before o is =
    let P : Item → Type 0 = IsOfBus bus in
    let one : All P (item.Reading o.reading ∷ []) = All-cons P (item.Reading o.reading) [] is (All-nil P) in
    cond_both (is_put o) (lead before o.reading o.attach ++ item.Reading o.reading ∷ []) [] (All P)
    (λ _. All-append P (lead before o.reading o.attach) (item.Reading o.reading ∷ []) (lead_of_bus bus before o.reading o.attach is) one)
    (λ _. All-nil P)

put_of_bus : (bus capacity : ℕ) (before os : List Offered) → AreOffersAfter bus capacity before os → All (IsOfBus bus) (put_after before os)
put_of_bus bus capacity before [] h = All-nil (IsOfBus bus)
put_of_bus bus capacity before (o ∷ os) h =
    All-append (IsOfBus bus) (put_by before o) (put_after (before ++ o ∷ []) os) (put_by_of_bus bus before o h.0.bus_is) (put_of_bus bus capacity (before ++ o ∷ []) os h.1)

gap_reads : (bus : ℕ) (gap : Option Missed) → numbers_read (gap_item bus gap) ≡ []
gap_reads bus None = refl
gap_reads bus (Some m) = refl

lead_reads : (before : List Offered) (reading : Reading) (attach : ℕ) → numbers_read (lead before reading attach) ≡ []
lead_reads before reading attach =
    cond_both (attach == turn_of before) (gap_item reading.bus (gap_of (trailing before))) (item.Start reading.bus reading.number attach ∷ [])
    (λ (l : List Item). numbers_read l ≡ [])
    (λ _. gap_reads reading.bus (gap_of (trailing before)))
    (λ _. refl)

number_low : (x : Item) → All (λ n. n < most_offers) (numbers_read (x ∷ [])) → record_number x < most_offers
number_low (item.Start bus number turn) h = omega arith
number_low (item.Reading r) h = All-head (λ n. n < most_offers) r.number [] h
number_low (item.Gap bus m) h = omega arith
number_low (item.End bus number) h = omega arith

module _ (bus capacity : ℕ) (p : Putting) (h : PutRule bus capacity p) where
  led_of_bus : All (IsOfBus bus) p.lead
  led_of_bus =
      ⊎_elim
      (λ (e : p.lead ≡ []). subst (All (IsOfBus bus)) (sym e) (All-nil (IsOfBus bus)))
      (λ (l : IsLead bus p.offers p.attach p.lead). subst (All (IsOfBus bus)) (sym l.lead_is) (lead_of_bus bus p.offers l.reading p.attach l.bus_is))
      h.lead_is

  led_reads : numbers_read p.lead ≡ []
  led_reads =
      ⊎_elim
      (λ (e : p.lead ≡ []). ap numbers_read e)
      (λ (l : IsLead bus p.offers p.attach p.lead). ap numbers_read l.lead_is ∙ lead_reads p.offers l.reading p.attach)
      h.lead_is

  all_of_bus : All (IsOfBus bus) p.put
  all_of_bus =
      subst (All (IsOfBus bus)) (sym h.put_is)
      (All-append (IsOfBus bus) (put_of p.offers) p.lead (put_of_bus bus capacity [] p.offers h.offered) led_of_bus)

  read_is : numbers_read p.put ≡ numbers_read (put_of p.offers)
  read_is =
      ap numbers_read h.put_is
      ∙ (flat_map-append number_read (put_of p.offers) p.lead
      ∙ (ap (λ ns. numbers_read (put_of p.offers) ++ ns) led_reads
      ∙ append-nil (numbers_read (put_of p.offers))))

  all_rise : AllPairs (λ a b. a < b) (numbers_read p.put) × All (λ n. n < most_offers) (numbers_read p.put)
  all_rise =
      let both = records_rise bus capacity p.offers h.offered in
      let few = h.few in
      subst (λ ns. AllPairs (λ a b. a < b) ns × All (λ n. n < most_offers) ns) (sym read_is)
      (both.0, All-weaker (λ n. n < length p.offers) (λ n. n < most_offers) (λ n below. omega arith) (numbers_read (put_of p.offers)) both.1)

  -- the next item
  pub next_is : (t : Taking) (x : Item) (more : List Item) → t.bus ≡ bus → p.put ≡ items_taken t.taken ++ x ∷ more → IsNext t x
  next_is t x more of_it split =
      let old : List Item = items_taken t.taken in
      let parts : numbers_read p.put ≡ numbers_read (old ++ x ∷ []) ++ numbers_read more =
      ap numbers_read (split ∙ sym (append_assoc old (x ∷ []) more)) ∙ flat_map-append number_read (old ++ x ∷ []) more in
      let inner : numbers_read (old ++ x ∷ []) ≡ numbers_read old ++ numbers_read (x ∷ []) = flat_map-append number_read old (x ∷ []) in
      let rise = subst (AllPairs (λ a b. a < b)) parts all_rise.0 in
      let low = subst (All (λ n. n < most_offers)) parts all_rise.1 in
      let bounded : All (λ n. n < most_offers) (numbers_read (x ∷ [])) =
      all_right (λ n. n < most_offers) (numbers_read old) (numbers_read (x ∷ []))
      (subst (All (λ n. n < most_offers)) inner (all_left (λ n. n < most_offers) (numbers_read (old ++ x ∷ [])) (numbers_read more) low)) in
      record {
        of_bus = subst (λ b. IsOfBus b x) (sym of_it) (All-head (IsOfBus bus) x more (all_right (IsOfBus bus) old (x ∷ more) (subst (All (IsOfBus bus)) split all_of_bus)));
        rises = all_pairs_left (λ a b. a < b) (numbers_read (old ++ x ∷ [])) (numbers_read more) rise;
        low = number_low x bounded;
      }
