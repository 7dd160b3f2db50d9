-- What a search in an index finds.
use Rattle.std.specs.Prelude.{◌≡◌, ◌≢◌, ℕ, ◌/◌, ◌%◌, ◌<◌, ◌≤◌, All, List, length, slice_get, slice_index, Option, Some, None}
use Rattle.bench_model.specs.declared.database.Message.{Message}
use Rattle.bench_model.specs.declared.database.Bus.{Bus}
use Rattle.bench_model.specs.Limits.{most_messages}
use Rattle.bench_model.specs.Decodable.{IsDecodable}
use Rattle.image_words.specs.declared.rows.BusRow.{BusRow}
use Rattle.image_words.specs.Layout.{message_words, HasRows}
use Rattle.image_words.specs.Index.{position_span, key_entries, groups_on, HasIndex}
use Rattle.image_words.specs.Image.{kind_of, HasMessage}

-- the entries below low are less than the target, and those from high on are not
pub record IsBetween (entries : List ℕ) (target low high : ℕ) : Type 0 where
  pub below : (i : ℕ) → i < low → i < length entries → slice_index entries i < target
  pub above : (i : ℕ) → high ≤ i → i < length entries → target ≤ slice_index entries i

-- the least position among the entries of a number
pub record HasFirst (entries : List ℕ) (number position : ℕ) : Type 0 where
  pub at : ℕ
  pub within : at < length entries
  pub number_is : slice_index entries at / position_span ≡ number
  pub position_is : slice_index entries at % position_span ≡ position
  pub least : (j : ℕ) → j < length entries → slice_index entries j / position_span ≡ number →
      position ≤ slice_index entries j % position_span

abbrev pub HasNone : List ℕ → ℕ → Type 0
HasNone entries number = (j : ℕ) → j < length entries → slice_index entries j / position_span ≢ number

abbrev pub IsFirstPosition : List ℕ → ℕ → Option ℕ → Type 0
IsFirstPosition entries number (Some position) = HasFirst entries number position
IsFirstPosition entries number None = HasNone entries number

-- a message with its position, or none of both
abbrev pub IsFoundAt : List Message → Option ℕ → Option Message → Type 0
IsFoundAt ms (Some position) (Some m) = slice_get ms position ≡ Some m
IsFoundAt ms None None = Unit {0}
IsFoundAt ms (Some position) None = ⊥
IsFoundAt ms None (Some m) = ⊥

-- the bus of a row, with a valid database's limits
pub record BusOf (row : BusRow) (image : List ℕ) (bus : Bus) : Type 0 where
  pub kind : bus.kind ≡ kind_of row.kind
  pub number : row.kind < 3
  pub messages : HasRows (HasMessage image) message_words row.messages_at row.messages bus.database.messages
  pub keys : HasIndex image (key_entries 0 bus.database.messages) row.keys_at row.messages
  pub groups : HasIndex image (groups_on bus.kind bus.database.messages) row.groups_at row.groups
  pub few : length bus.database.messages ≤ most_messages
  pub decodable : All IsDecodable bus.database.messages
