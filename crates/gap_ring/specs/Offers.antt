-- The offers made to a ring, in order, and what they put. The protocol is this project's own: a ring takes
-- each record of a bus once, a taker is attached for a turn at a time, and a record that finds no room is
-- refused and counted.
use Rattle.std.specs.Prelude.{◌≡◌, ℕ, ◌+◌, ◌-◌, ◌%◌, ◌<◌, ◌≤◌, ◌==◌, ◌&&◌, Bool, true, false, cond}
use Rattle.std.specs.Prelude.{List, [], ◌∷◌, ◌++◌, length, filter, fold, map, slice_index_or, Option, Some}
use Rattle.std.specs.Prelude.{None, All}
use Rattle.bench_model.specs.declared.reading.Reading.{Reading}
use Rattle.bench_model.specs.declared.reading.Missed.{Missed}
use Rattle.bench_model.specs.declared.reading.Item.{Item}
use Rattle.bench_model.specs.declared.reading.Item.TheVariants as item
use Rattle.gap_ring.specs.declared.entries.Outcome.{Outcome}
use Rattle.gap_ring.specs.declared.entries.Outcome.TheVariants as outcome
use Rattle.gap_ring.specs.declared.entries.Offered.{Offered}

-- an odd attach word says that the taker is attached; the word itself is the number of its turn
abbrev pub IsAttached : ℕ → Type 0
IsAttached attach = attach % 2 ≡ 1

abbrev pub IsDetached : ℕ → Type 0
IsDetached attach = attach % 2 ≡ 0

abbrev pub puts : Outcome → Bool
puts outcome.Put = true
puts outcome.Refused = false
puts outcome.Away = false

abbrev pub refuses : Outcome → Bool
refuses outcome.Put = false
refuses outcome.Refused = true
refuses outcome.Away = false

abbrev pub is_put : Offered → Bool
is_put o = puts o.outcome

-- the turn of the last offer that was put; 0, which is no turn, where none was
abbrev pub turn_of : List Offered → ℕ
turn_of offers = fold (λ turn o. cond (is_put o) o.attach turn) 0 offers

-- the offers after the last one that was put; all of them where none was
abbrev pub since_put : List Offered → List Offered
since_put offers = fold (λ since o. cond (is_put o) [] (since ++ o ∷ [])) [] offers

-- refused in this turn
abbrev pub is_missed_in : ℕ → Offered → Bool
is_missed_in turn o = refuses o.outcome && (o.attach == turn)

-- the trailing gap: the offers refused in the turn of the last offer that was put, since that one
abbrev pub trailing : List Offered → List Offered
trailing offers = filter (is_missed_in (turn_of offers)) (since_put offers)

-- a gap that counts these records, from the first to the last
abbrev pub missed : Reading → ℕ → Reading → Missed
missed first count last = record {
  first = first.number;
  count = count;
  first_micros = first.micros;
  last_micros = last.micros;
  first_version = first.version;
  last_version = last.version;
}

-- the last of a list that begins with this
abbrev pub last_of : Offered → List Offered → Offered
last_of o os = slice_index_or (o ∷ os) (length os) o

-- the gap of these offers, where there are any
abbrev pub gap_of : List Offered → Option Missed
gap_of [] = None
gap_of (o ∷ os) = Some (missed o.reading (length (o ∷ os)) (last_of o os).reading)

abbrev pub gap_item : ℕ → Option Missed → List Item
gap_item bus None = []
gap_item bus (Some m) = item.Gap bus m ∷ []

-- what goes before a record that is put: a Start where it is the first of its turn, else the gap of what was
-- refused since the last one was put
abbrev pub lead : List Offered → Reading → ℕ → List Item
lead before reading attach =
    cond (attach == turn_of before)
    (gap_item reading.bus (gap_of (trailing before)))
    (item.Start reading.bus reading.number attach ∷ [])

-- the slots that a record needs: one, and one for what goes before it
abbrev pub slots_needed : List Offered → Reading → ℕ → ℕ
slots_needed before reading attach = length (lead before reading attach) + 1

-- what an offer puts
abbrev pub put_by : List Offered → Offered → List Item
put_by before o = cond (is_put o) (lead before o.reading o.attach ++ item.Reading o.reading ∷ []) []

-- what these offers put, after those before
abbrev pub put_after : List Offered → List Offered → List Item
put_after before [] = []
put_after before (o ∷ os) = put_by before o ++ put_after (before ++ o ∷ []) os

abbrev pub put_of : List Offered → List Item
put_of offers = put_after [] offers

-- the free slots, by the head that was loaded
abbrev pub slots_free : ℕ → ℕ → ℕ → ℕ
slots_free capacity head tail = capacity - (tail - head)

-- a head that was loaded is no more than the tail, and the tail no more than the capacity above it
abbrev pub IsHeadOf : ℕ → ℕ → ℕ → Type 0
IsHeadOf capacity tail head = (head ≤ tail) × (tail ≤ head + capacity)

-- the head that an offer loaded, where it loaded one, is no more than this
abbrev pub IsHeadBy : ℕ → Offered → Type 0
IsHeadBy n o = (head : ℕ) → o.head ≡ Some head → head ≤ n

-- how an offer ends, by the words that it loaded: away exactly where no taker is attached, and of the others
-- refused exactly where fewer slots are free than it needs
abbrev pub Ends : ℕ → (attach : ℕ) → (head : Option ℕ) → (tail needed : ℕ) → Outcome → Type 0
Ends capacity attach head tail needed outcome.Away = IsDetached attach × (head ≡ None)
Ends capacity attach head tail needed outcome.Refused =
    IsAttached attach
    × ((h : ℕ) × (head ≡ Some h) × IsHeadOf capacity tail h × (slots_free capacity h tail < needed))
Ends capacity attach head tail needed outcome.Put =
    IsAttached attach
    × ((h : ℕ) × (head ≡ Some h) × IsHeadOf capacity tail h × (needed ≤ slots_free capacity h tail))

-- an offer to a ring of this bus and capacity, after those before
pub record IsOffered (bus capacity : ℕ) (before : List Offered) (o : Offered) : Type 0 where
  -- the record is the next one of the ring's bus
  pub bus_is : o.reading.bus ≡ bus
  pub number_is : o.reading.number ≡ length before
  -- an attach word is at least 1, and none goes down
  pub attach_low : 1 ≤ o.attach
  pub attach_rises : All (λ p. p.attach ≤ o.attach) before
  -- the tail and the slots needed at that moment
  pub tail_is : o.tail ≡ length (put_of before)
  pub needed_is : o.needed ≡ slots_needed before o.reading o.attach
  pub ends : Ends capacity o.attach o.head o.tail o.needed o.outcome

-- each offer is one to this ring, after those before it
abbrev pub AreOffersAfter : ℕ → ℕ → List Offered → List Offered → Type 0
AreOffersAfter bus capacity before [] = Unit {0}
AreOffersAfter bus capacity before (o ∷ os) =
    IsOffered bus capacity before o × AreOffersAfter bus capacity (before ++ o ∷ []) os

abbrev pub AreOffers : ℕ → ℕ → List Offered → Type 0
AreOffers bus capacity offers = AreOffersAfter bus capacity [] offers

-- the records offered
abbrev pub readings_of : List Offered → List Reading
readings_of offers = map (λ o. o.reading) offers

-- a gap that counts one record more
abbrev pub longer : Option Missed → Reading → Missed
longer None reading = missed reading 1 reading
longer (Some m) reading =
    record m { count = m.count + 1; last_micros = reading.micros; last_version = reading.version }

-- how many records a gap counts
abbrev pub missed_count : Option Missed → ℕ
missed_count None = 0
missed_count (Some m) = m.count

-- the version of the last record that a gap counts
abbrev pub last_version_of : Option Missed → ℕ
last_version_of None = 0
last_version_of (Some m) = m.last_version
