-- Which bench an image encodes. Each part of the bench is a function of the image's words; the parts are in
-- any order.
use Rattle.std.specs.Prelude.{◌≡◌, ℕ, ◌+◌, ◌*◌, ◌/◌, ◌%◌, ◌^◌, ◌<◌, ◌≤◌, ◌==◌, ℤ, pos, ◌-ℤ◌, Bool, false, if◌then◌else◌, List, length, Option, Some, None}
use Rattle.std.specs.Int.{w64, cast_signed}
use Rattle.exact_scale.specs.declared.scaling.Scale.{Scale}
use Rattle.multiplex_tree.specs.declared.mark.Range.{Range}
use Rattle.multiplex_tree.specs.declared.mark.Parent.{Parent}
use Rattle.bench_model.specs.declared.database.Kind.{Kind}
use Rattle.bench_model.specs.declared.database.Kind.TheVariants.{Can, J1939, Lin}
use Rattle.bench_model.specs.declared.database.Order.{Order}
use Rattle.bench_model.specs.declared.database.Order.TheVariants.{Intel, Motorola}
use Rattle.bench_model.specs.declared.database.Label.{Label}
use Rattle.bench_model.specs.declared.database.Entry.{Entry}
use Rattle.bench_model.specs.declared.database.Entry.TheVariants.{Logical, Physical, Plain}
use Rattle.bench_model.specs.declared.database.Coding.{Coding}
use Rattle.bench_model.specs.declared.database.Coding.TheVariants.{Scaled, Listed}
use Rattle.bench_model.specs.declared.database.Signal.{Signal}
use Rattle.bench_model.specs.declared.database.Message.{Message}
use Rattle.bench_model.specs.declared.database.Bus.{Bus}
use Rattle.bench_model.specs.declared.database.Bench.{Bench}
use Rattle.bench_model.specs.Decodable.{IsDecodableSignal}
use Rattle.image_words.specs.Layout.{word, image_length, header_words, bus_words, message_words, signal_words, range_words, label_words, entry_words, HasRows, HasText, HasOptionalText, AreZeros}
use Rattle.image_words.specs.Index.{extended_from, key_entries, groups_on, HasIndex}

-- factor and offset in two's complement, and places
pub record HasScale (image : List ℕ) (at : ℕ) (scale : Scale) : Type 0 where
  pub factor : scale.factor ≡ cast_signed w64 (word image at)
  pub offset : scale.offset ≡ cast_signed w64 (word image (at + 1))
  pub places : scale.k ≡ word image (at + 2)

pub record HasRange (image : List ℕ) (at : ℕ) (range : Range) : Type 0 where
  pub within : at + range_words ≤ image_length image
  pub low : range.low ≡ word image at
  pub high : range.high ≡ word image (at + 1)

-- a raw value by its low 64 bits, and whether it is negative
abbrev pub word_span : ℕ
word_span = 2 ^ 64

abbrev pub raw_of_bits : ℕ → Bool → ℤ
raw_of_bits bits negative = if negative then pos bits -ℤ pos word_span else pos bits

pub record HasLabel (image : List ℕ) (at : ℕ) (label : Label) : Type 0 where
  pub within : at + label_words ≤ image_length image
  pub flag : word image (at + 1) < 2
  pub raw : label.raw ≡ raw_of_bits (word image at) (word image (at + 1) == 1)
  pub text : HasText image (word image (at + 2)) label.text

-- the kinds of entries: 0, 1 and 2
pub record HasLogical (image : List ℕ) (at raw : ℕ) (text : Option (List ℕ)) : Type 0 where
  pub kind : word image at ≡ 0
  pub low : raw ≡ word image (at + 1)
  pub high : raw ≡ word image (at + 2)
  pub zeros : AreZeros image (at + 3) 3
  pub label : HasOptionalText image (word image (at + 6)) text

pub record HasPhysical (image : List ℕ) (at low high : ℕ) (scale : Scale) (unit : List ℕ) : Type 0 where
  pub kind : word image at ≡ 1
  pub low_word : low ≡ word image (at + 1)
  pub high_word : high ≡ word image (at + 2)
  pub scaling : HasScale image (at + 3) scale
  pub unit_text : HasText image (word image (at + 6)) unit

pub record HasPlain (image : List ℕ) (at : ℕ) : Type 0 where
  pub kind : word image at ≡ 2
  pub zeros : AreZeros image (at + 1) 6

abbrev pub HasKindOfEntry : List ℕ → ℕ → Entry → Type 0
HasKindOfEntry image at (Logical raw text) = HasLogical image at raw text
HasKindOfEntry image at (Physical low high scale unit) = HasPhysical image at low high scale unit
HasKindOfEntry image at Plain = HasPlain image at

pub record HasEntry (image : List ℕ) (at : ℕ) (entry : Entry) : Type 0 where
  pub within : at + entry_words ≤ image_length image
  pub kind : HasKindOfEntry image at entry

-- the last seven words of a signal's row: the kind of coding, 0 or 1, and its parts
pub record HasScaled (image : List ℕ) (at : ℕ) (scale : Scale) (unit : List ℕ) (labels : List Label) : Type 0 where
  pub kind : word image at ≡ 0
  pub rows : HasRows (HasLabel image) label_words (word image (at + 1)) (word image (at + 2)) labels
  pub scaling : HasScale image (at + 3) scale
  pub unit_text : HasText image (word image (at + 6)) unit

pub record HasListed (image : List ℕ) (at : ℕ) (entries : List Entry) : Type 0 where
  pub kind : word image at ≡ 1
  pub rows : HasRows (HasEntry image) entry_words (word image (at + 1)) (word image (at + 2)) entries
  pub zeros : AreZeros image (at + 3) 4

abbrev pub HasCoding : List ℕ → ℕ → Coding → Type 0
HasCoding image at (Scaled scale unit labels) = HasScaled image at scale unit labels
HasCoding image at (Listed entries) = HasListed image at entries

-- a signal's shape is one word: its start, its size * 2 ^ 16, 2 ^ 24 where it is big endian, and 2 ^ 25 where
-- it is signed
abbrev pub size_weight : ℕ
size_weight = 2 ^ 16

abbrev pub size_span : ℕ
size_span = 2 ^ 8

abbrev pub order_weight : ℕ
order_weight = 2 ^ 24

abbrev pub sign_weight : ℕ
sign_weight = 2 ^ 25

abbrev pub order_of : ℕ → Order
order_of flag = if flag == 1 then Motorola else Intel

-- name, shape and coding; a signal of an image is no floating point number
pub record HasSignal (image : List ℕ) (at : ℕ) (s : Signal) : Type 0 where
  pub within : at + signal_words ≤ image_length image
  pub name : HasText image (word image at) s.name
  pub shape : word image (at + 1) < 2 * sign_weight
  pub start : s.start ≡ word image (at + 1) % size_weight
  pub size : s.size ≡ word image (at + 1) / size_weight % size_span
  pub order : s.order ≡ order_of (word image (at + 1) / order_weight % 2)
  pub signed : s.signed ≡ (word image (at + 1) / sign_weight == 1)
  pub float : s.float ≡ false
  pub coding : HasCoding image (at + 5) s.coding

-- the parent of a signal, in the signal's row: 0 where it has none, else one more than the parent's place in
-- the message, and the place and the number of its ranges
pub record HasSomeParent (image : List ℕ) (at : ℕ) (p : Parent) : Type 0 where
  pub signal : word image (at + 2) ≡ p.signal + 1
  pub rows : HasRows (HasRange image) range_words (word image (at + 3)) (word image (at + 4)) p.ranges

abbrev pub HasParent : List ℕ → ℕ → Option Parent → Type 0
HasParent image at None = word image (at + 2) ≡ 0
HasParent image at (Some p) = HasSomeParent image at p

-- key, name, length, number of signals and their place; the signals' rows have the parents, too
pub record HasMessage (image : List ℕ) (at : ℕ) (m : Message) : Type 0 where
  pub within : at + message_words ≤ image_length image
  pub key : word image at < 2 * extended_from
  pub id : m.key.id ≡ word image at % extended_from
  pub extended : m.key.extended ≡ (word image at / extended_from == 1)
  pub name : HasText image (word image (at + 1)) m.name
  pub size : m.length ≡ word image (at + 2)
  pub signals : HasRows (HasSignal image) signal_words (word image (at + 4)) (word image (at + 3)) m.signals
  pub parents : HasRows (HasParent image) signal_words (word image (at + 4)) (word image (at + 3)) m.tree.parents

abbrev pub kind_of : ℕ → Kind
kind_of number = if number == 0 then Can else if number == 1 then J1939 else Lin

-- kind, name, number and place of the messages, place of the index by keys, number of entries and place of
-- the index by groups
pub record HasBus (image : List ℕ) (at : ℕ) (bus : Bus) : Type 0 where
  pub within : at + bus_words ≤ image_length image
  pub number : word image at < 3
  pub kind : bus.kind ≡ kind_of (word image at)
  pub name : HasText image (word image (at + 1)) bus.name
  pub messages : HasRows (HasMessage image) message_words (word image (at + 3)) (word image (at + 2)) bus.database.messages
  pub keys : HasIndex image (key_entries 0 bus.database.messages) (word image (at + 4)) (word image (at + 2))
  pub groups : HasIndex image (groups_on bus.kind bus.database.messages) (word image (at + 6)) (word image (at + 5))

-- the image encodes the bench: its length, the number of buses, and the buses' rows
pub record Encodes (image : List ℕ) (bench : Bench) : Type 0 where
  pub header : header_words ≤ image_length image
  pub whole : image_length image ≤ length image
  pub buses : HasRows (HasBus image) bus_words header_words (word image 1) bench.buses

-- the row of a signal that a valid bench may have
pub record HasDecodable (image : List ℕ) (at : ℕ) (s : Signal) : Type 0 where
  pub signal : HasSignal image at s
  pub decodable : IsDecodableSignal s
