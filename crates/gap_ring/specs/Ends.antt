-- The two ends of a ring, by their seats: the seat is of the ring, and no slot is out with it.
use Rattle.std.specs.Prelude.{◌≡◌, ℕ, ◌*◌, ◌≤◌, true, false, [], length, All, Option, None}
use Rattle.atomic_table.specs.Seated.{TableId}
use Rattle.atomic_table.specs.declared.shared.Seat.{Seat}
use Rattle.bench_model.specs.declared.reading.Item.{Item}
use Rattle.gap_ring.specs.declared.count.Count.{Count}
use Rattle.gap_ring.specs.declared.progress.Progress.{Progress}
use Rattle.gap_ring.specs.Turns.{given, next_of, is_begun}
use Rattle.gap_ring.specs.declared.view.View.{View}
use Rattle.gap_ring.specs.Offers.{turn_of, trailing, gap_of, put_of, missed_count}
use Rattle.gap_ring.specs.declared.view.Did.TheVariants as did
use Rattle.gap_ring.specs.Rule.{word_count, most_offers, head_word}
use Rattle.gap_ring.specs.Steps.{did_put, did_take, with_slot}

abbrev pub Place : Type 0
Place = Seat (Option Item) View

-- a seat of this ring
abbrev pub IsOn : TableId → Place → Type 0
IsOn ring seat = (seat.table_id ≡ ring) × (ring.words ≡ word_count)

-- a putter between two offers, by what it counts
pub record PutterRests (c : Count) (v : View) : Type 0 where
  pub puts : v.puts ≡ true
  pub home : v.putting.holds_slot ≡ false
  pub no_lead : v.putting.lead ≡ []
  pub put_is : v.putting.put ≡ put_of v.putting.offers
  pub tail_is : c.tail ≡ length v.putting.put
  pub number_is : c.number ≡ length v.putting.offers
  pub turn_is : c.turn ≡ turn_of v.putting.offers
  pub missed_is : c.missed ≡ gap_of (trailing v.putting.offers)
  pub missed_low : missed_count c.missed ≤ c.number
  pub few : c.number ≤ most_offers
  pub tail_low : c.tail ≤ 2 * c.number

-- a taker between two calls, by its progress
pub record TakerRests (c : Progress) (v : View) : Type 0 where
  pub takes : v.takes ≡ true
  pub empty : v.taking.hand ≡ None
  pub head_is : c.head ≡ length v.taking.taken
  pub attach_is : c.attach ≡ v.taking.attach
  pub started_is : c.started ≡ is_begun (given v.taking.taken v.taking.attach)
  pub next_is : c.next ≡ next_of (given v.taking.taken v.taking.attach)
  pub words_low : All (λ t. t.attach ≤ v.taking.attach) v.taking.taken

-- both ends are one seat, which has loaded the head
abbrev pub did_learn : ℕ → View → View
did_learn n v = record v { taking = did_take v.taking (did.Loaded head_word n) }

-- the putter has loaded the head again
abbrev pub did_reach : ℕ → View → View
did_reach n v = record v { putting = did_put (with_slot v.putting) (did.Loaded head_word n) }
