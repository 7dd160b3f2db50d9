-- What an offer does: its entry, its answer and its steps.
use Rattle.std.specs.Prelude.{◌≡◌, ◌⊎◌, ℕ, ◌+◌, ◌==◌, List, [], ◌∷◌, ◌++◌, length, Option, Some, None, true, cond}
use Rattle.bench_model.specs.declared.reading.Missed.{Missed}
use Rattle.bench_model.specs.declared.reading.Reading.{Reading}
use Rattle.bench_model.specs.declared.reading.Item.{Item}
use Rattle.gap_ring.specs.declared.answers.Offer.{Offer}
use Rattle.gap_ring.specs.declared.answers.Offer.TheVariants as offer
use Rattle.gap_ring.specs.declared.entries.Outcome.{Outcome}
use Rattle.gap_ring.specs.declared.entries.Outcome.TheVariants as outcome
use Rattle.gap_ring.specs.declared.entries.Offered.{Offered}
use Rattle.gap_ring.specs.declared.view.Did.{Did}
use Rattle.gap_ring.specs.declared.view.Did.TheVariants as did
use Rattle.gap_ring.specs.declared.view.GapWords.{GapWords}
use Rattle.gap_ring.specs.declared.view.View.{View}
use Rattle.gap_ring.specs.Offers.{IsOffered, put_by, readings_of, turn_of, trailing, gap_of, longer}
use Rattle.gap_ring.specs.Rule.{head_word, tail_word, attach_word, first_word, last_word, versions_word}
use Rattle.gap_ring.specs.Rule.{end_word, gap_words_of}
use Rattle.gap_ring.specs.Steps.{did_put, with_slot, lead_put, record_put}

-- the answer says how the offer ended, and hands the record back where it was not put
abbrev pub Answers : Offered → Offer → Type 0
Answers o offer.Put = o.outcome ≡ outcome.Put
Answers o (offer.Refused reading head) =
    (o.outcome ≡ outcome.Refused) × (reading ≡ o.reading) × (o.head ≡ Some head)
Answers o (offer.Away reading) = (o.outcome ≡ outcome.Away) × (reading ≡ o.reading)

-- what an offer loads first, where a taker is attached
abbrev pub first_loads : Offered → ℕ → List Did
first_loads o head = did.Loaded attach_word o.attach ∷ did.Loaded head_word head ∷ []

-- the loads and stores of an offer, at most five: the attach word; the head; the tail; and where something
-- goes before the record, the head and the tail once more
abbrev pub AreStepsBy : Offered → Outcome → List Did → Type 0
AreStepsBy o outcome.Away more = more ≡ did.Loaded attach_word o.attach ∷ []
AreStepsBy o outcome.Refused more = (head : ℕ) × (o.head ≡ Some head) × (more ≡ first_loads o head)
AreStepsBy o outcome.Put more =
    (head : ℕ) × (o.head ≡ Some head)
    × (((o.needed ≡ 1) × (more ≡ first_loads o head ++ did.Stored tail_word (o.tail + 1) ∷ []))
    ⊎ ((o.needed ≡ 2) × ((again : ℕ)
    × (more ≡ first_loads o head ++ did.Stored tail_word (o.tail + 1)
    ∷ did.Loaded head_word again ∷ did.Stored tail_word (o.tail + 2) ∷ []))))

-- the trailing gap after an offer: a record that is put ends it, a refusal in the turn of the last record put
-- makes it this record longer, and any other offer leaves it
abbrev pub gap_after : List Offered → Offered → Outcome → Option Missed
gap_after before o outcome.Put = None
gap_after before o outcome.Refused =
    cond (o.attach == turn_of before) (Some (longer (gap_of (trailing before)) o.reading)) (gap_of (trailing before))
gap_after before o outcome.Away = gap_of (trailing before)

-- what an offer does
pub record OfferMade (bus slots : ℕ) (reading : Reading) (v v' : View) (answer : Offer) : Type 0 where
  pub entry : Offered
  pub reading_is : entry.reading ≡ reading
  pub is_offered : IsOffered bus slots v.putting.offers entry
  pub answered : Answers entry answer
  pub offers_are : v'.putting.offers ≡ v.putting.offers ++ entry ∷ []
  pub readings_are : readings_of v'.putting.offers ≡ readings_of v.putting.offers ++ reading ∷ []
  -- what was put, and what is counted
  pub put_is : v'.putting.put ≡ v.putting.put ++ put_by v.putting.offers entry
  pub counted : gap_of (trailing v'.putting.offers) ≡ gap_after v.putting.offers entry entry.outcome
  pub more : List Did
  pub steps_are : v'.putting.steps ≡ v.putting.steps ++ more
  pub are_steps : AreStepsBy entry entry.outcome more
  pub still_open : v'.putting.ended ≡ v.putting.ended
  pub gap_same : v'.putting.gap ≡ v.putting.gap

-- the view after the items of a record were put: the record alone, or what goes before it, the head, and the
-- record
abbrev pub one_put : Reading → ℕ → View → View
one_put reading tail v = record v { putting = record_put reading (tail + 1) v.putting }

abbrev pub two_put : Item → ℕ → Reading → ℕ → View → View
two_put x again reading tail v =
    let led = did_put (with_slot (lead_put x (tail + 1) v.putting)) (did.Loaded head_word again) in
    record v { putting = record_put reading (tail + 2) led }

abbrev pub ItemsPut : Option Item → Reading → ℕ → View → View → ℕ → Type 0
ItemsPut None reading tail v v' next = (v' ≡ one_put reading tail v) × (next ≡ tail + 1)
ItemsPut (Some x) reading tail v v' next =
    ((again : ℕ) × (v' ≡ two_put x again reading tail v)) × (next ≡ tail + 2)

-- what an end stores: the gap words, and then the end word
abbrev pub stores_at_end : GapWords → ℕ → List Did
stores_at_end w number =
    did.Stored first_word w.first ∷ did.Stored last_word w.last ∷ did.Stored versions_word w.versions
    ∷ did.Stored end_word (number + 1) ∷ []

-- the end: the gap words of the trailing gap are stored, and then the end word
pub record EndMade (v v' : View) : Type 0 where
  pub ended : v'.putting.ended ≡ true
  pub offers_are : v'.putting.offers ≡ v.putting.offers
  pub put_same : v'.putting.put ≡ v.putting.put
  pub gap_is : v'.putting.gap ≡ gap_words_of (gap_of (trailing v.putting.offers))
  pub steps_are :
      v'.putting.steps ≡ v.putting.steps ++ stores_at_end v'.putting.gap (length v.putting.offers)
