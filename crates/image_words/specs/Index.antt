-- The indexes of a bus, by which a message is found: a number for each message, with its position, in
-- ascending order.
use Rattle.std.specs.Prelude.{ℕ, suc, ◌+◌, ◌*◌, ◌^◌, ◌≤◌, List, [], ◌∷◌, slice_range, if◌then◌else◌}
use Rattle.std.specs.List.Sorted.{IsPermutation, IsNonDecreasing}
use Rattle.bench_model.specs.declared.database.Kind.{Kind}
use Rattle.bench_model.specs.declared.database.Kind.TheVariants.{Can, J1939, Lin}
use Rattle.bench_model.specs.declared.database.Key.{Key}
use Rattle.bench_model.specs.declared.database.Message.{Message}
use Rattle.bench_model.specs.Meaning.{group_of}
use Rattle.image_words.specs.Layout.{image_length}

-- the number of a key: its identifier, and 2 ^ 32 more where it is extended
abbrev pub extended_from : ℕ
extended_from = 2 ^ 32

abbrev pub key_number : Key → ℕ
key_number key = if key.extended then key.id + extended_from else key.id

-- an entry is a number * 131,072 + the position of its message
abbrev pub position_span : ℕ
position_span = 131072

-- numbers of keys and of groups lie below this limit, so that an entry has at most 63 bits
abbrev pub number_limit : ℕ
number_limit = 2 ^ 46

-- one entry for each message, by its key, where the first message has this position
unfoldable pub key_entries : ℕ → List Message → List ℕ
key_entries position [] = []
key_entries position (m ∷ ms) =
    (key_number m.key * position_span + position) ∷ key_entries (suc position) ms

-- one entry for each extended message, by its parameter group number
unfoldable pub group_entries : ℕ → List Message → List ℕ
group_entries position [] = []
group_entries position (m ∷ ms) =
    if m.key.extended
    then (group_of m.key.id * position_span + position) ∷ group_entries (suc position) ms
    else group_entries (suc position) ms

-- only a J1939 bus finds messages by their groups
abbrev pub groups_on : Kind → List Message → List ℕ
groups_on J1939 ms = group_entries 0 ms
groups_on Can ms = []
groups_on Lin ms = []

-- these entries, in ascending order
pub record IsIndexOf (entries index : List ℕ) : Type 0 where
  pub ascending : IsNonDecreasing index
  pub same : IsPermutation entries index

-- so many words from a place on are the index of these entries; an empty one has any place
pub record HasIndex (image entries : List ℕ) (at count : ℕ) : Type 0 where
  pub within : 1 ≤ count → at + count ≤ image_length image
  pub index : IsIndexOf entries (slice_range image at (at + count))
