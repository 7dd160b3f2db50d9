-- Items that stand for a stretch of a list of records without a number left out or twice: each record as it
-- is, or counted in a gap.
use Rattle.std.specs.Prelude.{◌≡◌, ℕ, ◌+◌, ◌-◌, ◌≤◌, List, [], ◌∷◌, All, flat_map, slice_get, Some}
use Rattle.std.specs.List.{range_with_len}
use Rattle.bench_model.specs.declared.reading.Reading.{Reading}
use Rattle.bench_model.specs.declared.reading.Missed.{Missed}
use Rattle.bench_model.specs.declared.reading.Item.{Item}
use Rattle.bench_model.specs.declared.reading.Item.TheVariants as item

-- the numbers that a gap counts
abbrev pub numbers_missed : Missed → List ℕ
numbers_missed m = range_with_len m.first m.count

-- the numbers of the records that an item stands for
abbrev pub numbers_in : Item → List ℕ
numbers_in (item.Start bus number turn) = []
numbers_in (item.Reading r) = r.number ∷ []
numbers_in (item.Gap bus m) = numbers_missed m
numbers_in (item.End bus number) = []

-- the stamps and versions of a gap are those of the list's entries at its first and its last number
pub record IsGapOf (list : List Reading) (m : Missed) : Type 0 where
  pub first_reading : Reading
  pub last_reading : Reading
  pub counts : 1 ≤ m.count
  pub first_there : slice_get list m.first ≡ Some first_reading
  pub last_there : slice_get list (m.first + m.count - 1) ≡ Some last_reading
  pub micros : (m.first_micros ≡ first_reading.micros) × (m.last_micros ≡ last_reading.micros)
  pub versions : (m.first_version ≡ first_reading.version) × (m.last_version ≡ last_reading.version)

-- a record that is the list's entry at its number, or a gap of the list
abbrev pub IsFrom : List Reading → Item → Type 0
IsFrom list (item.Start bus number turn) = ⊥
IsFrom list (item.Reading r) = slice_get list r.number ≡ Some r
IsFrom list (item.Gap bus m) = IsGapOf list m
IsFrom list (item.End bus number) = ⊥

-- the items give each number from `from` up to `to` once, in order
pub record Tiles (items : List Item) (list : List Reading) (from to : ℕ) : Type 0 where
  pub order : from ≤ to
  pub true_to : All (IsFrom list) items
  pub once : flat_map numbers_in items ≡ range_with_len from (to - from)

-- the numbers of the records among these items
abbrev pub number_read : Item → List ℕ
number_read (item.Start bus number turn) = []
number_read (item.Reading r) = r.number ∷ []
number_read (item.Gap bus m) = []
number_read (item.End bus number) = []

abbrev pub numbers_read : List Item → List ℕ
numbers_read items = flat_map number_read items
