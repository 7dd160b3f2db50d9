-- What was taken, and what of it was given in one turn of the taker.
use Rattle.std.specs.Prelude.{◌≡◌, ℕ, ◌+◌, ◌<◌, ◌≤◌, ◌==◌, Bool, true, false, cond, List, [], ◌∷◌, ◌++◌}
use Rattle.std.specs.Prelude.{◌⊎◌, Contains, length, map, filter, fold}
use Rattle.std.specs.Prelude.{All, AllPairs, Option, Some, None}
use Rattle.bench_model.specs.declared.reading.Missed.{Missed}
use Rattle.bench_model.specs.declared.reading.Item.{Item}
use Rattle.bench_model.specs.declared.reading.Item.TheVariants as item
use Rattle.gap_ring.specs.declared.entries.Outcome.TheVariants as outcome
use Rattle.gap_ring.specs.declared.entries.Offered.{Offered}
use Rattle.gap_ring.specs.declared.entries.Taken.{Taken}
use Rattle.gap_ring.specs.Offers.{turn_of, trailing, gap_of, gap_item, readings_of}
use Rattle.gap_ring.specs.Tiles.{Tiles, numbers_read}
use Rattle.gap_ring.specs.Groups.{Group, group_items, OfferWas, IsGroup, AreGroups}

-- the items that were taken
abbrev pub items_taken : List Taken → List Item
items_taken taken = map (λ t. t.item) taken

abbrev pub starts_turn : ℕ → Item → Bool
starts_turn turn (item.Start bus number t) = t == turn
starts_turn turn (item.Reading r) = false
starts_turn turn (item.Gap bus m) = false
starts_turn turn (item.End bus number) = false

-- the items from the Start of this turn on
abbrev pub from_start : ℕ → List Item → List Item
from_start turn [] = []
from_start turn (x ∷ xs) = cond (starts_turn turn x) (x ∷ xs) (from_start turn xs)

-- what was given in this turn: what was taken while the attach word was this one, from its Start on
abbrev pub given : List Taken → ℕ → List Item
given taken turn = from_start turn (items_taken (filter (λ t. t.attach == turn) taken))

-- where the item is a Start, it is of no later turn than this
abbrev pub IsStartBy : ℕ → Item → Type 0
IsStartBy attach (item.Start bus number turn) = turn ≤ attach
IsStartBy attach (item.Reading r) = Unit {0}
IsStartBy attach (item.Gap bus m) = Unit {0}
IsStartBy attach (item.End bus number) = Unit {0}

-- what a taker took, up to this attach word
pub record AreTaken (attach : ℕ) (taken : List Taken) : Type 0 where
  pub words_rise : AllPairs (λ s t. s.attach ≤ t.attach) taken
  pub words_bounded : All (λ t. t.attach ≤ attach) taken
  -- no Start is of a later turn than that in which it was taken
  pub in_time : All (λ t. IsStartBy t.attach t.item) taken

-- the number after the last record among items, by that before this item
abbrev pub next_after : ℕ → Item → ℕ
next_after next (item.Start bus number turn) = next
next_after next (item.Reading r) = r.number + 1
next_after next (item.Gap bus m) = next
next_after next (item.End bus number) = next

abbrev pub next_of : List Item → ℕ
next_of items = fold next_after 0 items

-- whether anything was given
abbrev pub is_begun : List Item → Bool
is_begun [] = false
is_begun (x ∷ xs) = true

-- the gap from this number up to the end; none where there is nothing between
abbrev pub IsGapTo : ℕ → ℕ → Option Missed → Type 0
IsGapTo next number None = next ≡ number
IsGapTo next number (Some m) = (m.first ≡ next) × (next + m.count ≡ number) × (1 ≤ m.count)

-- the gap that a taker of this turn is answered at the end: what was refused in its turn after the last
-- record that was put; none where no record was put in its turn, or none was refused after the last
abbrev pub ending : ℕ → List Offered → Option Missed
ending turn offers = cond (turn_of offers == turn) (gap_of (trailing offers)) None

-- a turn that lasts to the end: what was given is a whole group, and with the gap at the end it tiles the
-- records offered, from its Start to the last
pub record IsWholeTurn (bus : ℕ) (offers : List Offered) (items : List Item) (gap : Option Missed) (g : Group)
    : Type 0 where
  pub whole : items ≡ group_items bus g
  pub group : IsGroup offers g
  pub to_the_end : Tiles (g.items ++ gap_item bus gap) (readings_of offers) g.number (length offers)
  pub refused : (n : ℕ) → g.next ≤ n → n < length offers → OfferWas outcome.Refused offers g.turn n

-- a turn, whether or not it lasted to the end: what was given is its group's Start and what follows, up to
-- some item, and that tiles the records offered from the Start on
pub record IsPartOfTurn (bus : ℕ) (offers : List Offered) (turn : ℕ) (items : List Item) (g : Group)
    : Type 0 where
  pub turn_is : g.turn ≡ turn
  pub group : IsGroup offers g
  pub after : List Item
  pub items_are : items ≡ item.Start bus g.number turn ∷ after
  -- the rest of the group was not given
  pub rest : List Item
  pub prefix : g.items ≡ after ++ rest
  pub next : ℕ
  pub tiles : Tiles after (readings_of offers) g.number next

-- a ring as a whole: what was put is made of groups, one a turn; what was given in each turn is nothing, or a part
-- of that turn's group; and the numbers of the records rise
pub record AreTurns (bus : ℕ) (offers : List Offered) (put : List Item) (taken : List Taken) : Type 0 where
  pub groups : List Group
  pub grouped : AreGroups bus offers put groups
  pub given_part :
      (turn : ℕ) → (given taken turn ≡ [])
      ⊎ ((g : Group) × Contains groups g × IsPartOfTurn bus offers turn (given taken turn) g)
  pub numbers_rise : AllPairs (λ a b. a < b) (numbers_read put)
