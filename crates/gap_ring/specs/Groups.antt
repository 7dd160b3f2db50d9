-- The groups that the items of a ring are made of: each is the stretch of one turn of the taker, from its
-- Start on.
use Rattle.std.specs.Prelude.{◌≡◌, ℕ, ◌<◌, ◌≤◌, List, ◌∷◌, length, flat_map, slice_get, Some, All, AllPairs}
use Rattle.bench_model.specs.declared.reading.Item.{Item}
use Rattle.bench_model.specs.declared.reading.Item.TheVariants as item
use Rattle.gap_ring.specs.declared.entries.Outcome.{Outcome}
use Rattle.gap_ring.specs.declared.entries.Outcome.TheVariants as outcome
use Rattle.gap_ring.specs.declared.entries.Offered.{Offered}
use Rattle.gap_ring.specs.Offers.{IsAttached, readings_of}
use Rattle.gap_ring.specs.Tiles.{Tiles, numbers_missed}

pub record Group : Type 0 where
  -- the number of its first record
  pub number : ℕ
  pub turn : ℕ
  -- the number after its last record
  pub next : ℕ
  -- what follows its Start
  pub items : List Item

-- the group as it was put
abbrev pub group_items : ℕ → Group → List Item
group_items bus g = item.Start bus g.number g.turn ∷ g.items

-- the offer of this number ended so, in this turn
abbrev pub OfferWas : Outcome → List Offered → ℕ → ℕ → Type 0
OfferWas how offers turn number =
    (o : Offered) × (slice_get offers number ≡ Some o) × (o.attach ≡ turn) × (o.outcome ≡ how)

-- an item of a turn: a record was put in the turn, and each that a gap counts was refused in it
abbrev pub IsOfTurn : List Offered → ℕ → Item → Type 0
IsOfTurn offers turn (item.Start bus number t) = ⊥
IsOfTurn offers turn (item.Reading r) = OfferWas outcome.Put offers turn r.number
IsOfTurn offers turn (item.Gap bus m) = All (OfferWas outcome.Refused offers turn) (numbers_missed m)
IsOfTurn offers turn (item.End bus number) = ⊥

-- a group of these offers
pub record IsGroup (offers : List Offered) (g : Group) : Type 0 where
  pub attached : IsAttached g.turn
  -- its Start has the number of a record that was put in its turn
  pub starts : OfferWas outcome.Put offers g.turn g.number
  -- it tiles the records offered, from the Start's number on
  pub tiles : Tiles g.items (readings_of offers) g.number g.next
  pub bounded : g.next ≤ length offers
  pub of_turn : All (IsOfTurn offers g.turn) g.items

-- the items are these groups, one after another, and their turns rise
pub record AreGroups (bus : ℕ) (offers : List Offered) (items : List Item) (groups : List Group)
    : Type 0 where
  pub joined : items ≡ flat_map (group_items bus) groups
  pub each : All (IsGroup offers) groups
  pub turns_rise : AllPairs (λ g h. g.turn < h.turn) groups
