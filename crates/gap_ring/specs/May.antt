-- Where each step of a seat may be made, by what the seat knows.
use Rattle.std.specs.Prelude.{◌≡◌, ◌⊎◌, ℕ, ◌+◌, ◌<◌, ◌≤◌, true, false, [], ◌∷◌, length, Option, Some, None}
use Rattle.std.specs.Prelude.{option_to_list}
use Rattle.bench_model.specs.declared.reading.Reading.{Reading}
use Rattle.bench_model.specs.declared.reading.Item.{Item}
use Rattle.gap_ring.specs.declared.view.View.{View}
use Rattle.gap_ring.specs.Offers.{IsAttached, IsHeadOf, slots_needed, slots_free, lead, put_of}
use Rattle.gap_ring.specs.Rule.{IsLead, most_offers, first_word, last_word, versions_word}

-- what a step may be asked for: the record is the next one of the bus, and the offers have not ended
pub record MayOffer (bus : ℕ) (reading : Reading) (v : View) : Type 0 where
  pub may : v.puts ≡ true
  pub open_ : v.putting.ended ≡ false
  pub home : v.putting.holds_slot ≡ false
  pub no_lead : v.putting.lead ≡ []
  pub its : reading.bus ≡ bus
  pub number : reading.number ≡ length v.putting.offers
  pub room : length v.putting.offers < most_offers

-- the head, for the first time in an offer
pub record MayPut (bus : ℕ) (reading : Reading) (v : View) : Type 0 where
  pub offer : MayOffer bus reading v
  pub odd : IsAttached v.putting.attach

-- the head again, for the slot of the record
pub record MayReach (slots : ℕ) (v : View) : Type 0 where
  pub may : v.puts ≡ true
  pub open_ : v.putting.ended ≡ false
  pub home : v.putting.holds_slot ≡ false
  pub room : length v.putting.put < v.putting.head + slots

-- the tail, with what goes before the record
pub record MayLead (bus : ℕ) (x : Item) (n : ℕ) (v : View) : Type 0 where
  pub may : v.puts ≡ true
  pub open_ : v.putting.ended ≡ false
  pub mine : v.putting.holds_slot ≡ true
  pub no_lead : v.putting.lead ≡ []
  pub is_lead : IsLead bus v.putting.offers v.putting.attach (x ∷ [])
  pub count : n ≡ length v.putting.put + 1

-- the tail, with the record
pub record MayRecord (bus slots : ℕ) (reading : Reading) (n : ℕ) (v : View) : Type 0 where
  pub may : v.puts ≡ true
  pub open_ : v.putting.ended ≡ false
  pub mine : v.putting.holds_slot ≡ true
  pub odd : IsAttached v.putting.attach
  pub its : reading.bus ≡ bus
  pub number : reading.number ≡ length v.putting.offers
  pub room : length v.putting.offers < most_offers
  pub led : v.putting.lead ≡ lead v.putting.offers reading v.putting.attach
  pub head_is : IsHeadOf slots (length (put_of v.putting.offers)) v.putting.head
  pub enough :
      slots_needed v.putting.offers reading v.putting.attach
      ≤ slots_free slots v.putting.head (length (put_of v.putting.offers))
  pub count : n ≡ length v.putting.put + 1

-- the gap words and the end word
pub record MayEnd (v : View) : Type 0 where
  pub may : v.puts ≡ true
  pub open_ : v.putting.ended ≡ false

-- the attach word
pub record MayTurn (n : ℕ) (v : View) : Type 0 where
  pub may : v.takes ≡ true
  pub empty : v.taking.hand ≡ None
  pub next : n ≡ v.taking.attach + 1

-- the tail
pub record MayTake (v : View) : Type 0 where
  pub may : v.takes ≡ true
  pub empty : v.taking.hand ≡ None

-- the head: what is in hand was taken
pub record MayGive (x : Item) (n : ℕ) (v : View) : Type 0 where
  pub may : v.takes ≡ true
  pub hand : v.taking.hand ≡ Some x
  pub next : n ≡ length v.taking.taken + 1

abbrev pub IsGapWord : ℕ → Type 0
IsGapWord word = (word ≡ first_word) ⊎ (word ≡ last_word) ⊎ (word ≡ versions_word)

-- the items of a record that is put, once the slot of the tail is in hand
pub record MayItems (bus slots : ℕ) (reading : Reading) (led : Option Item) (v : View) : Type 0 where
  pub may : v.puts ≡ true
  pub open_ : v.putting.ended ≡ false
  pub mine : v.putting.holds_slot ≡ true
  pub no_lead : v.putting.lead ≡ []
  pub put_is : v.putting.put ≡ put_of v.putting.offers
  pub odd : IsAttached v.putting.attach
  pub its : reading.bus ≡ bus
  pub number : reading.number ≡ length v.putting.offers
  pub room : length v.putting.offers < most_offers
  pub led_is : option_to_list led ≡ lead v.putting.offers reading v.putting.attach
  pub head_is : IsHeadOf slots (length (put_of v.putting.offers)) v.putting.head
  pub enough :
      slots_needed v.putting.offers reading v.putting.attach
      ≤ slots_free slots v.putting.head (length (put_of v.putting.offers))
