-- The rule of a ring: how the words and the slots of its table agree with what was offered, put and taken. It
-- holds between any two steps.
use Rattle.std.specs.Prelude.{◌≡◌, ◌⊎◌, ℕ, ◌+◌, ◌*◌, ◌^◌, ◌%◌, ◌<◌, ◌≤◌, true, false, cond, List, [], ◌++◌}
use Rattle.std.specs.Prelude.{length, slice_index, slice_get}
use Rattle.std.specs.Prelude.{All, Option, Some, None}
use mathlib.Core.Option.{some}
use mathlib.Core.Option as maybe
use lib.ListN.{get_elem?}
use Rattle.atomic_table.specs.Table.{State}
use Rattle.bench_model.specs.declared.reading.Reading.{Reading}
use Rattle.bench_model.specs.declared.reading.Missed.{Missed}
use Rattle.bench_model.specs.declared.reading.Item.{Item}
use Rattle.gap_ring.specs.declared.entries.Offered.{Offered}
use Rattle.gap_ring.specs.declared.view.GapWords.{GapWords}
use Rattle.gap_ring.specs.declared.view.Putting.{Putting}
use Rattle.gap_ring.specs.declared.view.Taking.{Taking}
use Rattle.gap_ring.specs.declared.view.View.{View}
use Rattle.gap_ring.specs.Offers.{IsAttached, lead, put_of, gap_of, trailing, last_version_of, IsHeadBy, AreOffers}
use Rattle.gap_ring.specs.Turns.{items_taken, IsStartBy, AreTaken}

-- the places of the words, each on a cache line of its own
abbrev pub head_word : ℕ
head_word = 0

abbrev pub tail_word : ℕ
tail_word = 16

abbrev pub end_word : ℕ
end_word = 32

abbrev pub attach_word : ℕ
attach_word = 48

abbrev pub first_word : ℕ
first_word = 64

abbrev pub last_word : ℕ
last_word = 80

abbrev pub versions_word : ℕ
versions_word = 96

abbrev pub word_count : ℕ
word_count = 112

-- a ring has no more slots than this
abbrev pub most_slots : ℕ
most_slots = 16384

-- a word is below this
abbrev pub word_limit : ℕ
word_limit = 2 ^ 64

-- an attach word and a count of offers are below this
abbrev pub count_limit : ℕ
count_limit = 2 ^ 63

-- a version is below this: a word has room for two of them
abbrev pub version_limit : ℕ
version_limit = 2 ^ 32

-- the gap words of a trailing gap: zeros where there is none
abbrev pub no_gap_words : GapWords
no_gap_words = record { first = 0; last = 0; versions = 0 }

abbrev pub gap_words_of : Option Missed → GapWords
gap_words_of None = no_gap_words
gap_words_of (Some m) =
    record {
      first = m.first_micros;
      last = m.last_micros;
      versions = m.first_version * version_limit + m.last_version;
    }

-- the view at the start: nothing was offered, and the taker is attached for its first turn
abbrev pub first_putting : Putting
first_putting = record {
  offers = [];
  put = [];
  lead = [];
  attach = 1;
  head = 0;
  holds_slot = false;
  gap = no_gap_words;
  ended = false;
  steps = [];
}

abbrev pub first_taking : ℕ → Taking
first_taking bus =
    record { bus = bus; taken = []; attach = 1; end = 0; hand = None; done = false; known = []; steps = [] }

abbrev pub first_view : ℕ → View
first_view bus = record { puts = true; takes = true; putting = first_putting; taking = first_taking bus }

abbrev pub end_of : Putting → ℕ
end_of p = cond p.ended (length p.offers + 1) 0

-- the words
pub record Words (ws : List ℕ) (p : Putting) (t : Taking) : Type 0 where
  pub wide : length ws ≡ word_count
  -- the head is the number of items taken, the tail the number put
  pub head_is : slice_index ws head_word ≡ length t.taken
  pub tail_is : slice_index ws tail_word ≡ length p.put
  -- the end word is 0, or one more than the number of offers
  pub end_is : slice_index ws end_word ≡ end_of p
  pub attach_is : slice_index ws attach_word ≡ t.attach
  -- each gap word is what the putter stored into it last
  pub first_is : slice_index ws first_word ≡ p.gap.first
  pub last_is : slice_index ws last_word ≡ p.gap.last
  pub versions_is : slice_index ws versions_word ≡ p.gap.versions

-- no more records are offered than this
abbrev pub most_offers : ℕ
most_offers = 2 ^ 62

-- what was put before the record of the offer that is being made: the Start or the gap that goes before the
-- next record of the bus under the attach word that was loaded last, which is odd
pub record IsLead (bus : ℕ) (offers : List Offered) (attach : ℕ) (items : List Item) : Type 0 where
  pub reading : Reading
  pub bus_is : reading.bus ≡ bus
  pub number_is : reading.number ≡ length offers
  pub attached : IsAttached attach
  pub lead_is : items ≡ lead offers reading attach

-- what was offered and put
pub record PutRule (bus capacity : ℕ) (p : Putting) : Type 0 where
  pub offered : AreOffers bus capacity p.offers
  pub few : length p.offers ≤ most_offers
  -- what was put is what the offers put, and what goes before the record of the offer that is being made
  pub put_is : p.put ≡ put_of p.offers ++ p.lead
  -- so a Start that is put has an odd turn above that of the group before it (`a_start_begins_a_later_turn`)
  pub lead_is : (p.lead ≡ []) ⊎ IsLead bus p.offers p.attach p.lead
  -- the attach words that the offers loaded are no higher than the one that was loaded last
  pub attach_low : 1 ≤ p.attach
  pub attach_high : All (λ o. o.attach ≤ p.attach) p.offers
  -- and so are the heads
  pub head_high : All (IsHeadBy p.head) p.offers

-- what was taken of it, and what waits
pub record TakeRule (capacity : ℕ) (p : Putting) (t : Taking) (waiting : List Item) : Type 0 where
  -- what was taken is a prefix of what was put, and the tail is never more than the capacity above the head
  pub split : p.put ≡ items_taken t.taken ++ waiting
  pub room : length waiting ≤ capacity
  -- a slot that the putter has is free
  pub slot_free : p.holds_slot ≡ true → length waiting < capacity
  -- what the taker has in hand is the oldest item
  pub hand_is : (x : Item) → t.hand ≡ Some x → slice_get waiting 0 ≡ Some x
  -- what the putter loaded is no higher than the number now
  pub attach_seen : p.attach ≤ t.attach
  pub head_seen : p.head ≤ length t.taken
  pub taken : AreTaken t.attach t.taken
  pub starts : All (IsStartBy t.attach) p.put

-- the slot of this item is out with a seat: that of the head with the taker, or that of the tail with the
-- putter
abbrev pub IsOut : Putting → Taking → List Item → ℕ → Type 0
IsOut p t waiting k =
    ((k ≡ 0) × ((x : Item) × (t.hand ≡ Some x))) ⊎ ((k ≡ length waiting) × (p.holds_slot ≡ true))

-- the slots, from that of the head on, have what waits, in order, and the others nothing
abbrev pub Slots : List (maybe.Option (Option Item)) → Putting → Taking → List Item → Type 0
Slots homes p t waiting =
    (k : ℕ) → k < length homes
    → (get_elem? homes ((length t.taken + k) % length homes) ≡ some (some (slice_get waiting k)))
    ⊎ IsOut p t waiting k

-- the end
pub record EndRule (p : Putting) (t : Taking) : Type 0 where
  -- after the end no offer is being made, and the gap words are those of the trailing gap
  pub no_lead : p.ended ≡ true → p.lead ≡ []
  pub gap_is : p.ended ≡ true → p.gap ≡ gap_words_of (gap_of (trailing p.offers))
  -- and the last version fits its half of a word
  pub fits : p.ended ≡ true → last_version_of (gap_of (trailing p.offers)) < version_limit
  -- an end word that the taker loaded is 0, or one more than the number of offers
  pub end_seen : (t.end ≡ 0) ⊎ ((p.ended ≡ true) × (t.end ≡ length p.offers + 1))
  -- a taker that is done knows all offers, and took all that they put
  pub done_is : t.done ≡ true → (p.ended ≡ true) × (t.known ≡ p.offers) × (items_taken t.taken ≡ p.put)

-- one seat puts and one takes, and each knows its own part
abbrev pub Knows : (putter taker : ℕ) → Putting → Taking → ℕ → View → Type 0
Knows putter taker p t seat v =
    (v.puts ≡ true → (seat ≡ putter) × (v.putting ≡ p)) × (v.takes ≡ true → (seat ≡ taker) × (v.taking ≡ t))

abbrev pub EachSeat : (putter taker : ℕ) → Putting → Taking → List View → Type 0
EachSeat putter taker p t views =
    (seat : ℕ) (v : View) → get_elem? views seat ≡ some v → Knows putter taker p t seat v

-- the rule, where the seats know this
pub record KeptBy (bus : ℕ) (s : State (Option Item) View) (p : Putting) (t : Taking) : Type 0 where
  pub waiting : List Item
  pub putter : ℕ
  pub taker : ℕ
  pub bus_is : t.bus ≡ bus
  pub deep : 2 ≤ length s.homes
  pub words : Words s.words p t
  pub put : PutRule bus (length s.homes) p
  pub take : TakeRule (length s.homes) p t waiting
  pub slots : Slots s.homes p t waiting
  pub end : EndRule p t
  pub each_seat : EachSeat putter taker p t s.views

pub record Kept (bus : ℕ) (s : State (Option Item) View) : Type 0 where
  pub p : Putting
  pub t : Taking
  pub by : KeptBy bus s p t
