-- What a take and a turn of the taker do: what they load, store and answer, and what stays the same.
use Rattle.std.specs.Prelude.{◌≡◌, ℕ, ◌+◌, ◌-◌, ◌/◌, ◌%◌, ◌<◌, ◌≤◌, List, [], ◌∷◌, ◌++◌, length, true, All}
use Rattle.std.specs.Prelude.{Option}
use Rattle.bench_model.specs.declared.reading.Missed.{Missed}
use Rattle.bench_model.specs.declared.reading.Item.{Item}
use Rattle.gap_ring.specs.declared.answers.Take.{Take}
use Rattle.gap_ring.specs.declared.answers.Take.TheVariants as take
use Rattle.gap_ring.specs.declared.entries.Offered.{Offered}
use Rattle.gap_ring.specs.declared.view.Did.{Did}
use Rattle.gap_ring.specs.declared.view.Did.TheVariants as did
use Rattle.gap_ring.specs.declared.view.GapWords.{GapWords}
use Rattle.gap_ring.specs.declared.view.Taking.{Taking}
use Rattle.gap_ring.specs.Offers.{AreOffers, put_of, trailing, gap_of}
use Rattle.gap_ring.specs.Turns.{items_taken, AreTaken, given, ending}
use Rattle.gap_ring.specs.Rule.{head_word, tail_word, end_word, attach_word, first_word, last_word}
use Rattle.gap_ring.specs.Rule.{versions_word, version_limit, gap_words_of}
use Rattle.gap_ring.specs.Steps.{IsNext}

-- no call of the taker changes the bus, and a take leaves the turn as it is
pub record IsSameTurn (t t' : Taking) : Type 0 where
  pub bus_same : t'.bus ≡ t.bus
  pub attach_same : t'.attach ≡ t.attach

-- an end that was found earlier is known as it was
pub record IsSameEnd (t t' : Taking) : Type 0 where
  pub done_same : t'.done ≡ t.done
  pub known_same : t'.known ≡ t.known

-- an item was taken: the end word was loaded, then a tail above the head, and the head was stored
pub record TookItem (t t' : Taking) (x : Item) : Type 0 where
  -- the next item of the ring's bus, taken under this attach word
  pub next : IsNext t x
  pub taken_grows : t'.taken ≡ t.taken ++ record { item = x; attach = t.attach } ∷ []
  pub same_turn : IsSameTurn t t'
  pub same_end : IsSameEnd t t'
  pub end : ℕ
  pub tail : ℕ
  pub waits : length t.taken < tail
  pub steps_are :
      t'.steps ≡ t.steps
      ++ did.Loaded end_word end ∷ did.Loaded tail_word tail ∷ did.Stored head_word (length t.taken + 1) ∷ []

-- nothing waited and the ring goes on: the end word was 0, and then the tail was the head
pub record FoundNothing (t t' : Taking) (tail : ℕ) : Type 0 where
  pub all_taken : tail ≡ length t.taken
  pub taken_same : t'.taken ≡ t.taken
  pub same_turn : IsSameTurn t t'
  pub same_end : IsSameEnd t t'
  pub steps_are : t'.steps ≡ t.steps ++ did.Loaded end_word 0 ∷ did.Loaded tail_word tail ∷ []

-- the five loads at the end: the end word, the tail, and the gap words of these offers
abbrev pub loads_at_end : ℕ → ℕ → GapWords → List Did
loads_at_end number tail w =
    did.Loaded end_word (number + 1) ∷ did.Loaded tail_word tail
    ∷ did.Loaded first_word w.first ∷ did.Loaded last_word w.last ∷ did.Loaded versions_word w.versions ∷ []

-- all was taken and the ring has ended
pub record FoundEnd (slots : ℕ) (t t' : Taking) (number : ℕ) (gap : Option Missed) : Type 0 where
  -- all offers, of which all that was put was taken
  pub known : List Offered
  pub offered : AreOffers t.bus slots known
  pub all_taken : items_taken t.taken ≡ put_of known
  pub words : AreTaken t.attach t.taken
  pub low : All (λ o. o.attach ≤ t.attach) known
  -- the answer
  pub number_is : number ≡ length known
  pub gap_is : gap ≡ ending t.attach known
  -- from now on they are known; where they were known already, they are the same
  pub done_now : t'.done ≡ true
  pub known_now : t'.known ≡ known
  pub known_before : t.done ≡ true → known ≡ t.known
  pub taken_same : t'.taken ≡ t.taken
  pub same_turn : IsSameTurn t t'
  -- the gap words that were loaded are those of the trailing gap
  pub steps_are :
      t'.steps ≡ t.steps ++ loads_at_end number (length t.taken) (gap_words_of (gap_of (trailing known)))

-- what a take does: an item is given; or it is before this turn's Start, and nothing was given yet nor is
-- now; or nothing waits
abbrev pub TakeMade : ℕ → Taking → Taking → Take → Type 0
TakeMade slots t t' (take.Item x) =
    TookItem t t' x × (given t'.taken t.attach ≡ given t.taken t.attach ++ x ∷ [])
TakeMade slots t t' take.Old =
    (x : Item) × TookItem t t' x × (given t.taken t.attach ≡ []) × (given t'.taken t.attach ≡ [])
TakeMade slots t t' (take.Empty tail) = FoundNothing t t' tail
TakeMade slots t t' (take.Ended number gap) = FoundEnd slots t t' number gap

-- a turn of the taker: one store, of the next attach word. Nothing is taken by it, and nothing was given yet
-- in the new turn
pub record TurnMade (t t' : Taking) : Type 0 where
  pub attach_next : t'.attach ≡ t.attach + 1
  pub taken_same : t'.taken ≡ t.taken
  pub same_end : IsSameEnd t t'
  pub bus_same : t'.bus ≡ t.bus
  pub steps_are : t'.steps ≡ t.steps ++ did.Stored attach_word (t.attach + 1) ∷ []
  pub given_anew : given t'.taken t'.attach ≡ []

-- the gap from this number up to the end, with the gap words
abbrev pub gap_by : ℕ → ℕ → GapWords → Missed
gap_by next number w = record {
  first = next;
  count = number - next;
  first_micros = w.first;
  last_micros = w.last;
  first_version = w.versions / version_limit;
  last_version = w.versions % version_limit;
}
