-- What each step of a seat changes in its view, and what it shows. Each step enters the word that it loaded
-- or stored in its seat's log, whichever word that was.
use Rattle.std.specs.Prelude.{◌≡◌, ℕ, ◌+◌, ◌%◌, ◌<◌, ◌≤◌, ◌==◌, nat_lt, Bool, MatchBool, All, AllPairs, true}
use Rattle.std.specs.Prelude.{false, cond, List, [], ◌∷◌, ◌++◌, length, Option, Some, None}
use Rattle.atomic_table.specs.Table.{Me, Step}
use Rattle.bench_model.specs.declared.reading.Reading.{Reading}
use Rattle.bench_model.specs.declared.reading.Item.{Item}
use Rattle.bench_model.specs.declared.reading.Item.TheVariants as item
use Rattle.gap_ring.specs.declared.entries.Outcome.{Outcome}
use Rattle.gap_ring.specs.declared.entries.Outcome.TheVariants as outcome
use Rattle.gap_ring.specs.declared.entries.Offered.{Offered}
use Rattle.gap_ring.specs.declared.entries.Taken.{Taken}
use Rattle.gap_ring.specs.declared.view.Did.{Did}
use Rattle.gap_ring.specs.declared.view.Did.TheVariants as did
use Rattle.gap_ring.specs.declared.view.GapWords.{GapWords}
use Rattle.gap_ring.specs.declared.view.Putting.{Putting}
use Rattle.gap_ring.specs.declared.view.Taking.{Taking}
use Rattle.gap_ring.specs.declared.view.View.{View}
use Rattle.gap_ring.specs.Offers.{IsHeadOf, IsHeadBy, slots_needed, slots_free, put_of, gap_of, trailing}
use Rattle.gap_ring.specs.Offers.{last_version_of, AreOffers}
use Rattle.gap_ring.specs.Tiles.{numbers_read}
use Rattle.gap_ring.specs.Turns.{items_taken, AreTaken}
use Rattle.gap_ring.specs.Rule.{first_view, gap_words_of, most_offers, head_word, tail_word, end_word}
use Rattle.gap_ring.specs.Rule.{attach_word, first_word, last_word, version_limit}

abbrev pub Sat : Type 0
Sat = Me (Option Item) View

abbrev pub At : Type 0
At = Step (Option Item)

-- the entry of an offer that is made now
abbrev pub entry_of : Putting → Reading → Option ℕ → Outcome → Offered
entry_of p reading head how = record {
  reading = reading;
  attach = p.attach;
  head = head;
  tail = length (put_of p.offers);
  needed = slots_needed p.offers reading p.attach;
  outcome = how;
}

abbrev pub did_put : Putting → Did → Putting
did_put p what = record p { steps = p.steps ++ what ∷ [] }

abbrev pub did_take : Taking → Did → Taking
did_take t what = record t { steps = t.steps ++ what ∷ [] }

-- Each step is seen through one of these four: the log of its end grows by this very load or store, of the
-- word that the step was made on and with the value that it found or stored, and by nothing else. What else
-- it shows is `shows`.
abbrev pub PutterLoads : (At → Sat → ℕ → Sat → Type 0) → At → Sat → ℕ → Sat → Type 0
PutterLoads shows st m n m' =
    shows st m n m' × (m'.0.putting.steps ≡ m.0.putting.steps ++ did.Loaded st.word n ∷ [])

abbrev pub PutterStores : (At → Sat → ℕ → Sat → Type 0) → At → Sat → ℕ → Sat → Type 0
PutterStores shows st m n m' =
    shows st m n m' × (m'.0.putting.steps ≡ m.0.putting.steps ++ did.Stored st.word n ∷ [])

abbrev pub TakerLoads : (At → Sat → ℕ → Sat → Type 0) → At → Sat → ℕ → Sat → Type 0
TakerLoads shows st m n m' =
    shows st m n m' × (m'.0.taking.steps ≡ m.0.taking.steps ++ did.Loaded st.word n ∷ [])

abbrev pub TakerStores : (At → Sat → ℕ → Sat → Type 0) → At → Sat → ℕ → Sat → Type 0
TakerStores shows st m n m' =
    shows st m n m' × (m'.0.taking.steps ≡ m.0.taking.steps ++ did.Stored st.word n ∷ [])

-- the putter has loaded the attach word: an even one ends the offer
abbrev pub with_attach : Putting → ℕ → Putting
with_attach p n = record p { attach = n }

abbrev pub with_offer : Putting → Reading → Option ℕ → Outcome → Putting
with_offer p reading head how = record p { offers = p.offers ++ entry_of p reading head how ∷ [] }

abbrev pub attach_known : Reading → ℕ → Putting → Putting
attach_known reading n p =
    cond (n % 2 == 0) (with_offer (with_attach p n) reading None outcome.Away) (with_attach p n)

abbrev pub attach_seen : Reading → ℕ → Putting → Putting
attach_seen reading n p = did_put (attach_known reading n p) (did.Loaded attach_word n)

abbrev pub saw_attach : Option Reading → At → Sat → ℕ → Sat → Type 0
saw_attach None st m n m' = Unit {0}
saw_attach (Some reading) st m n m' =
    (m'.0 ≡ record m.0 { putting = did_put (attach_known reading n m.0.putting) (did.Loaded st.word n) })
    × (m'.1 ≡ m.1)
    × (1 ≤ n) × All (λ o. o.attach ≤ n) m.0.putting.offers

-- it has loaded the head: too few free slots end the offer, else it has the slot of the tail
abbrev pub is_short : ℕ → ℕ → Putting → Reading → Bool
is_short capacity n p reading =
    nat_lt (slots_free capacity n (length (put_of p.offers))) (slots_needed p.offers reading p.attach)

abbrev pub with_slot : Putting → Putting
with_slot p = record p { holds_slot = true }

abbrev pub with_head : Putting → ℕ → Putting
with_head p n = record p { head = n }

abbrev pub head_known : ℕ → Reading → ℕ → Putting → Putting
head_known capacity reading n p =
    cond (is_short capacity n p reading)
    (with_offer (with_head p n) reading (Some n) outcome.Refused)
    (with_slot (with_head p n))

abbrev pub head_seen : ℕ → Reading → ℕ → Putting → Putting
head_seen capacity reading n p = did_put (head_known capacity reading n p) (did.Loaded head_word n)

abbrev pub slot_taken : ℕ → Putting → List (ℕ × Option Item)
slot_taken capacity p = (length p.put % capacity, None) ∷ []

abbrev pub saw_head : Option Reading → At → Sat → ℕ → Sat → Type 0
saw_head None st m n m' = Unit {0}
saw_head (Some reading) st m n m' =
    (m'.0
    ≡ record m.0 { putting = did_put (head_known st.slots reading n m.0.putting) (did.Loaded st.word n) })
    × (m'.1 ≡ cond (is_short st.slots n m.0.putting reading) [] (slot_taken st.slots m.0.putting))
    × IsHeadOf st.slots (length (put_of m.0.putting.offers)) n

-- it has loaded the head again, for the slot of the record
abbrev pub reached : At → Sat → ℕ → Sat → Type 0
reached st m n m' =
    (m'.0 ≡ record m.0 { putting = did_put (with_slot m.0.putting) (did.Loaded st.word n) })
    × (m'.1 ≡ slot_taken st.slots m.0.putting)

-- it has stored the tail: what it had in hand was put
abbrev pub with_lead : Item → Putting → Putting
with_lead x p = record p { put = p.put ++ x ∷ []; lead = x ∷ []; holds_slot = false }

abbrev pub lead_put : Item → ℕ → Putting → Putting
lead_put x n p = did_put (with_lead x p) (did.Stored tail_word n)

-- the item in hand
abbrev pub item_in : List (ℕ × Option Item) → Option Item
item_in [] = None
item_in (x ∷ xs) = x.1

abbrev pub record_in : Option Item → Option Reading
record_in None = None
record_in (Some (item.Start bus number turn)) = None
record_in (Some (item.Reading r)) = Some r
record_in (Some (item.Gap bus m)) = None
record_in (Some (item.End bus number)) = None

abbrev pub put_lead : Option Item → At → Sat → ℕ → Sat → Type 0
put_lead None st m n m' = Unit {0}
put_lead (Some x) st m n m' =
    (m'.0 ≡ record m.0 { putting = did_put (with_lead x m.0.putting) (did.Stored st.word n) }) × (m'.1 ≡ [])

abbrev pub with_record : Reading → Putting → Putting
with_record reading p =
    record (with_offer p reading (Some p.head) outcome.Put) {
      put = p.put ++ item.Reading reading ∷ [];
      lead = [];
      holds_slot = false;
    }

abbrev pub record_put : Reading → ℕ → Putting → Putting
record_put reading n p = did_put (with_record reading p) (did.Stored tail_word n)

abbrev pub put_record : Option Reading → At → Sat → ℕ → Sat → Type 0
put_record None st m n m' = Unit {0}
put_record (Some reading) st m n m' =
    (m'.0 ≡ record m.0 { putting = did_put (with_record reading m.0.putting) (did.Stored st.word n) })
    × (m'.1 ≡ [])

-- it has stored a gap word
abbrev pub with_gap_word : ℕ → ℕ → GapWords → GapWords
with_gap_word word n g =
    cond (word == first_word) (record g { first = n })
    (cond (word == last_word) (record g { last = n }) (record g { versions = n }))

abbrev pub gap_stored : ℕ → ℕ → Putting → Putting
gap_stored word n p = did_put (record p { gap = with_gap_word word n p.gap }) (did.Stored word n)

abbrev pub stored_gap : At → Sat → ℕ → Sat → Type 0
stored_gap st m n m' = (m'.0 ≡ record m.0 { putting = gap_stored st.word n m.0.putting }) × (m'.1 ≡ m.1)

-- it has stored the end word
abbrev pub end_stored : ℕ → Putting → Putting
end_stored n p = did_put (record p { ended = true }) (did.Stored end_word n)

abbrev pub stored_end : At → Sat → ℕ → Sat → Type 0
stored_end st m n m' =
    (m'.0 ≡ record m.0 { putting = did_put (record m.0.putting { ended = true }) (did.Stored st.word n) })
    × (m'.1 ≡ m.1)

-- the taker has loaded the end word
abbrev pub end_loaded : ℕ → Taking → Taking
end_loaded n t = did_take (record t { end = n }) (did.Loaded end_word n)

abbrev pub saw_end : At → Sat → ℕ → Sat → Type 0
saw_end st m n m' =
    (m'.0 ≡ record m.0 { taking = did_take (record m.0.taking { end = n }) (did.Loaded st.word n) })
    × (m'.1 ≡ m.1)

-- the item that it takes next: of the ring's bus, and a record has a higher number than each that was taken
-- before
abbrev pub IsOfBus : ℕ → Item → Type 0
IsOfBus bus (item.Start b number turn) = b ≡ bus
IsOfBus bus (item.Reading r) = r.bus ≡ bus
IsOfBus bus (item.Gap b m) = b ≡ bus
IsOfBus bus (item.End b number) = ⊥

-- the number of a record, where the item is one
abbrev pub record_number : Item → ℕ
record_number (item.Start bus number turn) = 0
record_number (item.Reading r) = r.number
record_number (item.Gap bus m) = 0
record_number (item.End bus number) = 0

pub record IsNext (t : Taking) (x : Item) : Type 0 where
  pub of_bus : IsOfBus t.bus x
  pub rises : AllPairs (λ a b. a < b) (numbers_read (items_taken t.taken ++ x ∷ []))
  pub low : record_number x < most_offers

-- all offers, of which the taker has taken all that they put
pub record IsAll (slots : ℕ) (t : Taking) (known : List Offered) : Type 0 where
  pub number : t.end ≡ length known + 1
  pub offered : AreOffers t.bus slots known
  pub all_taken : items_taken t.taken ≡ put_of known
  pub words : AreTaken t.attach t.taken
  pub low : All (λ o. o.attach ≤ t.attach) known
  pub fits : last_version_of (gap_of (trailing known)) < version_limit

-- it has loaded the tail: an item waits; or none does, and the ring goes on or has ended
abbrev pub tail_loaded : ℕ → Taking → Taking
tail_loaded n t = did_take t (did.Loaded tail_word n)

abbrev pub item_waits : At → Sat → ℕ → Sat → Type 0
item_waits st m n m' =
    (x : Item)
    × (m'.0 ≡ record m.0 { taking = did_take (record m.0.taking { hand = Some x }) (did.Loaded st.word n) })
    × (m'.1 ≡ (length m.0.taking.taken % st.slots, Some x) ∷ []) × IsNext m.0.taking x
    × (length m.0.taking.taken < n)

abbrev pub none_waits : At → Sat → ℕ → Sat → Type 0
none_waits st m n m' =
    (m'.0 ≡ record m.0 { taking = did_take m.0.taking (did.Loaded st.word n) }) × (m'.1 ≡ m.1)

abbrev pub at_end : List Offered → Taking → Taking
at_end known t = record t { done = true; known = known }

abbrev pub all_taken : At → Sat → ℕ → Sat → Type 0
all_taken st m n m' =
    (known : List Offered)
    × (m'.0 ≡ record m.0 { taking = did_take (at_end known m.0.taking) (did.Loaded st.word n) })
    × (m'.1 ≡ m.1) × IsAll st.slots m.0.taking known × (m.0.taking.done ≡ true → known ≡ m.0.taking.known)

abbrev pub saw_tail : At → Sat → ℕ → Sat → Type 0
saw_tail st m n m' =
    MatchBool (n == length m.0.taking.taken)
    (MatchBool (m.0.taking.end == 0) (none_waits st m n m') (all_taken st m n m'))
    (item_waits st m n m')

-- it has loaded a gap word: after the end it is that of the trailing gap
abbrev pub gap_word : ℕ → GapWords → ℕ
gap_word word g = cond (word == first_word) g.first (cond (word == last_word) g.last g.versions)

abbrev pub saw_gap : At → Sat → ℕ → Sat → Type 0
saw_gap st m n m' =
    (m'.0 ≡ record m.0 { taking = did_take m.0.taking (did.Loaded st.word n) }) × (m'.1 ≡ m.1)
    × (m.0.taking.done ≡ true → n ≡ gap_word st.word (gap_words_of (gap_of (trailing m.0.taking.known))))

-- it has stored the head: what it had in hand was taken
abbrev pub taken_now : Taking → Option Item → List Taken
taken_now t None = []
taken_now t (Some x) = record { item = x; attach = t.attach } ∷ []

abbrev pub with_taken : Taking → Taking
with_taken t = record t { taken = t.taken ++ taken_now t t.hand; hand = None }

abbrev pub head_stored : ℕ → Taking → Taking
head_stored n t = did_take (with_taken t) (did.Stored head_word n)

abbrev pub stored_head : At → Sat → ℕ → Sat → Type 0
stored_head st m n m' =
    (m'.0 ≡ record m.0 { taking = did_take (with_taken m.0.taking) (did.Stored st.word n) }) × (m'.1 ≡ [])

-- it has stored the attach word
abbrev pub attach_stored : ℕ → Taking → Taking
attach_stored n t = did_take (record t { attach = n }) (did.Stored attach_word n)

abbrev pub stored_attach : At → Sat → ℕ → Sat → Type 0
stored_attach st m n m' =
    (m'.0 ≡ record m.0 { taking = did_take (record m.0.taking { attach = n }) (did.Stored st.word n) })
    × (m'.1 ≡ m.1)

-- what both ends know, once they meet
pub record HaveMet (bus slots : ℕ) (p : Putting) (t : Taking) : Type 0 where
  pub bus_is : t.bus ≡ bus
  pub offered : AreOffers bus slots p.offers
  pub put_is : p.put ≡ put_of p.offers ++ p.lead
  pub waiting : List Item
  pub split : p.put ≡ items_taken t.taken ++ waiting
  pub room : length waiting ≤ slots
  pub words : AreTaken t.attach t.taken
  pub attach_low : 1 ≤ t.attach
  pub low : All (λ o. o.attach ≤ t.attach) p.offers
  -- no offer loaded a head above the number taken
  pub heads : All (IsHeadBy (length t.taken)) p.offers
  -- once ended, the gap words are those of the trailing gap
  pub gap_is : p.ended ≡ true → p.gap ≡ gap_words_of (gap_of (trailing p.offers))
  pub done : t.done ≡ true → (t.known ≡ p.offers) × (items_taken t.taken ≡ p.put)

abbrev pub learned : ℕ → At → Sat → ℕ → Sat → Type 0
learned bus st m n m' =
    (m'.0 ≡ record m.0 { taking = did_take m.0.taking (did.Loaded st.word n) }) × (m'.1 ≡ m.1)
    × HaveMet bus st.slots m'.0.putting m'.0.taking × (n ≡ length m.0.taking.taken)

-- the seats: one that may do both is cut in two, and two are made one again
abbrev pub putter_side : View → View
putter_side v = record v { takes = false }

abbrev pub taker_side : View → View
taker_side v = record v { puts = false }

abbrev pub both_sides : View → View → View
both_sides v w = record v { takes = true; taking = w.taking }

abbrev pub spent_view : View
spent_view = record (first_view 0) { puts = false; takes = false }
