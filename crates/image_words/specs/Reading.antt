-- What the code reads of an image on its way: records of its own shape, and what they say of the bench's
-- parts.
use Rattle.std.specs.Prelude.{◌≡◌, ℕ, ◌+◌, ◌*◌, ◌/◌, ◌%◌, ◌<◌, ◌≤◌, ◌==◌, true, false, All, List, [], length, slice_get, slice_index, Option, Some, None}
use Rattle.std.specs.Int.{w64, cast_signed}
use Rattle.exact_scale.specs.declared.scaling.Scale.{Scale}
use Rattle.multiplex_tree.specs.declared.mark.Range.{Range}
use Rattle.multiplex_tree.specs.declared.mark.Parent.{Parent}
use Rattle.multiplex_tree.specs.Activity.{parent_at, selects}
use Rattle.bench_model.specs.declared.database.Label.{Label}
use Rattle.bench_model.specs.declared.database.Entry.{Entry}
use Rattle.bench_model.specs.declared.database.Entry.TheVariants.{Logical, Physical, Plain}
use Rattle.bench_model.specs.declared.database.Coding.{Coding}
use Rattle.bench_model.specs.declared.database.Coding.TheVariants.{Scaled, Listed}
use Rattle.bench_model.specs.declared.database.Message.{Message}
use Rattle.bench_model.specs.declared.database.Signal.{Signal}
use Rattle.bench_model.specs.Limits.{most_bits, last_start, IsEntry, IsCoding}
use Rattle.bench_model.specs.Decodable.{IsDecodable}
use Rattle.bench_model.specs.declared.reading.SignalValue.{SignalValue}
use Rattle.bench_model.specs.Meaning.{Physical as Meant, raw_values, active_value}
use Rattle.image_words.specs.declared.shape.Shape.{Shape}
use Rattle.image_words.specs.declared.rows.BusRow.{BusRow}
use Rattle.image_words.specs.declared.rows.MessageRow.{MessageRow}
use Rattle.image_words.specs.declared.rows.Level.{Level}
use Rattle.image_words.specs.declared.rows.CodingRow.{CodingRow}
use Rattle.image_words.specs.declared.rows.SignalRow.{SignalRow}
use Rattle.image_words.specs.declared.choices.LabelRow.{LabelRow}
use Rattle.image_words.specs.declared.choices.EntryRow.{EntryRow}
use Rattle.image_words.specs.declared.coding.Coded.{Coded}
use Rattle.image_words.specs.declared.activity.Step.{Step}
use Rattle.image_words.specs.declared.activity.Step.TheVariants.{Top, PassedOver, Selected}
use Rattle.image_words.specs.Layout.{word, signal_words, range_words, label_words, entry_words, HasRows, HasText, HasOptionalText}
use Rattle.image_words.specs.Image.{size_weight, size_span, order_weight, sign_weight, order_of, HasRange, HasLabel, HasEntry, HasSignal, HasDecodable, HasParent, HasMessage}
use Rattle.image_words.specs.Knowledge.{Knowledge, Narrows, Holds}

-- words were read and nothing else happened to what has them
pub record Learned {W : Type 0} (knows : W → Knowledge) (reads : W → W → Type 0) (old new : W) : Type 0 where
  pub narrows : Narrows (knows old) (knows new)
  pub reads_on : reads old new

-- each list that fits has a part of this kind
abbrev pub EachHas : {X : Type 0} → Knowledge → (List ℕ → X → Type 0) → Type 0
EachHas {X = X} k Has = Holds k (λ image bench. (x : X) × Has image x)

-- whatever list fits, this is true of its part of this kind
abbrev pub EachIs : {X : Type 0} → Knowledge → (List ℕ → X → Type 0) → (List ℕ → X → Type 0) → Type 0
EachIs {X = X} k Has P = Holds k (λ image bench. (x : X) → Has image x → P image x)

-- these are the words from a place on
abbrev pub AreWords : List ℕ → ℕ → List ℕ → Type 0
AreWords image at words = (i : ℕ) → i < length words → word image (at + i) ≡ slice_index words i

-- the shape that a word says
abbrev pub shape_of : ℕ → Shape
shape_of word = record {
  start = word % size_weight;
  size = word / size_weight % size_span;
  order = order_of (word / order_weight % 2);
  signed = word / sign_weight == 1;
}

-- a signal's shape, and one that a valid bench may have
pub record HasShape (shape : Shape) (s : Signal) : Type 0 where
  pub start : s.start ≡ shape.start
  pub size : s.size ≡ shape.size
  pub order : s.order ≡ shape.order
  pub signed : s.signed ≡ shape.signed

pub record IsDecodableShape (shape : Shape) : Type 0 where
  pub some_bits : 1 ≤ shape.size
  pub size : shape.size ≤ most_bits
  pub start : shape.start ≤ last_start

-- the parts of the bench at given places, as they are asked of each list that fits
abbrev pub TextAt : ℕ → List ℕ → List ℕ → Type 0
TextAt reference image text = HasText image reference text

abbrev pub RangesAt : ℕ → ℕ → List ℕ → List Range → Type 0
RangesAt at count image ranges = HasRows (HasRange image) range_words at count ranges

abbrev pub LabelsAt : ℕ → ℕ → List ℕ → List Label → Type 0
LabelsAt at count image labels = HasRows (HasLabel image) label_words at count labels

-- entries whose scalings are within their limits
pub record EntriesAt (at count : ℕ) (image : List ℕ) (entries : List Entry) : Type 0 where
  pub rows : HasRows (HasEntry image) entry_words at count entries
  pub limits : All IsEntry entries

abbrev pub SignalAt : ℕ → List ℕ → Signal → Type 0
SignalAt at image s = HasDecodable image at s

-- so many rows from a place on are the signals of a message, with its tree
pub record SignalsAt (at count : ℕ) (image : List ℕ) (m : Message) : Type 0 where
  pub signals : HasRows (HasSignal image) signal_words at count m.signals
  pub parents : HasRows (HasParent image) signal_words at count m.tree.parents
  pub decodable : IsDecodable m

-- the row at a place, word by word
pub record IsBusRow (image : List ℕ) (at : ℕ) (row : BusRow) : Type 0 where
  pub kind : word image at ≡ row.kind
  pub messages : word image (at + 2) ≡ row.messages
  pub messages_at : word image (at + 3) ≡ row.messages_at
  pub keys_at : word image (at + 4) ≡ row.keys_at
  pub groups : word image (at + 5) ≡ row.groups
  pub groups_at : word image (at + 6) ≡ row.groups_at

pub record IsMessageRow (image : List ℕ) (at : ℕ) (row : MessageRow) : Type 0 where
  pub name : word image (at + 1) ≡ row.name
  pub signals : word image (at + 3) ≡ row.signals
  pub signals_at : word image (at + 4) ≡ row.signals_at

pub record IsLevel (image : List ℕ) (at : ℕ) (level : Level) : Type 0 where
  pub shape : shape_of (word image (at + 1)) ≡ level.shape
  pub parent : word image (at + 2) ≡ level.parent
  pub ranges_at : word image (at + 3) ≡ level.ranges_at
  pub ranges : word image (at + 4) ≡ level.ranges

pub record IsCodingRow (image : List ℕ) (at : ℕ) (row : CodingRow) : Type 0 where
  pub kind : word image at ≡ row.kind
  pub choices_at : word image (at + 1) ≡ row.choices_at
  pub choices : word image (at + 2) ≡ row.choices
  pub factor : word image (at + 3) ≡ row.factor
  pub offset : word image (at + 4) ≡ row.offset
  pub places : word image (at + 5) ≡ row.places
  pub unit_text : word image (at + 6) ≡ row.unit

pub record IsSignalRow (image : List ℕ) (at : ℕ) (row : SignalRow) : Type 0 where
  pub name : word image at ≡ row.name
  pub level : IsLevel image at row.level
  pub coding : IsCodingRow image (at + 5) row.coding

-- the label at this place of the list: its raw value, and a reference to its text
pub record IsLabelRow (image : List ℕ) (labels : List Label) (i : ℕ) (row : LabelRow) : Type 0 where
  pub label : Label
  pub there : slice_get labels i ≡ Some label
  pub raw : label.raw ≡ row.raw
  pub text : HasText image row.text label.text

-- the scaling of three words
abbrev pub scale_of : ℕ → ℕ → ℕ → Scale
scale_of factor offset places = record { factor = cast_signed w64 factor; offset = cast_signed w64 offset; k = places }

-- the entry of a row: for one raw value, for a range with a scaling and a unit, or for all
pub record IsLogical (image : List ℕ) (row : EntryRow) (raw : ℕ) (text : Option (List ℕ)) : Type 0 where
  pub kind : row.kind ≡ 0
  pub low : raw ≡ row.low
  pub high : raw ≡ row.high
  pub label : HasOptionalText image row.text text

pub record IsPhysical (image : List ℕ) (row : EntryRow) (low high : ℕ) (scale : Scale) (unit : List ℕ) : Type 0 where
  pub kind : row.kind ≡ 1
  pub low_word : low ≡ row.low
  pub high_word : high ≡ row.high
  pub scaling : scale ≡ scale_of row.factor row.offset row.places
  pub unit_text : HasText image row.text unit

abbrev pub IsEntryOf : EntryRow → List ℕ → Entry → Type 0
IsEntryOf row image (Logical raw text) = IsLogical image row raw text
IsEntryOf row image (Physical low high scale unit) = IsPhysical image row low high scale unit
IsEntryOf row image Plain = row.kind ≡ 2

-- the entry at this place of the list
pub record IsEntryRow (image : List ℕ) (entries : List Entry) (i : ℕ) (row : EntryRow) : Type 0 where
  pub entry : Entry
  pub there : slice_get entries i ≡ Some entry
  pub is_of : IsEntryOf row image entry
  pub limits : IsEntry entry

-- the coding of a row
pub record IsScaled (image : List ℕ) (row : CodingRow) (scale : Scale) (unit : List ℕ) (labels : List Label) : Type 0 where
  pub kind : row.kind ≡ 0
  pub rows : LabelsAt row.choices_at row.choices image labels
  pub scaling : scale ≡ scale_of row.factor row.offset row.places
  pub unit_text : HasText image row.unit unit

pub record IsListed (image : List ℕ) (row : CodingRow) (entries : List Entry) : Type 0 where
  pub kind : row.kind ≡ 1
  pub rows : HasRows (HasEntry image) entry_words row.choices_at row.choices entries

abbrev pub IsCodingOf : CodingRow → List ℕ → Coding → Type 0
IsCodingOf row image (Scaled scale unit labels) = IsScaled image row scale unit labels
IsCodingOf row image (Listed entries) = IsListed image row entries

-- within its limits
pub record CodingOf (row : CodingRow) (image : List ℕ) (coding : Coding) : Type 0 where
  pub is_of : IsCodingOf row image coding
  pub limits : IsCoding coding

-- a text that may be missing as one that may be empty
abbrev pub text_or_empty : Option (List ℕ) → List ℕ
text_or_empty None = []
text_or_empty (Some text) = text

pub record HasUnit (image : List ℕ) (reference : ℕ) (unit : List ℕ) : Type 0 where
  pub text : Option (List ℕ)
  pub there : HasOptionalText image reference text
  pub same : unit ≡ text_or_empty text

-- a value with references to its unit and its label
pub record IsCoded (image : List ℕ) (coded : Coded) (physical : Meant) : Type 0 where
  pub number : physical.value ≡ coded.value
  pub unit_text : HasUnit image coded.unit physical.unit
  pub label_text : HasOptionalText image coded.label physical.label

-- where a signal's parent leads: the signal has none, it has one that does not select it, or one that does
abbrev pub IsTop : Message → ℕ → Type 0
IsTop m place = parent_at m.tree.parents place ≡ None

pub record IsPassedOver (bytes : List ℕ) (m : Message) (place : ℕ) : Type 0 where
  pub parent : Parent
  pub is_parent : parent_at m.tree.parents place ≡ Some parent
  pub selects_not : selects (raw_values bytes m.signals) parent ≡ false

pub record IsSelected (at : ℕ) (bytes image : List ℕ) (m : Message) (place up : ℕ) (level : Level) : Type 0 where
  pub parent : Parent
  pub is_parent : parent_at m.tree.parents place ≡ Some parent
  pub place_is : parent.signal ≡ up
  pub selects_it : selects (raw_values bytes m.signals) parent ≡ true
  pub is_level : IsLevel image (at + signal_words * up) level

abbrev pub LeadsUp : ℕ → List ℕ → ℕ → Step → List ℕ → Message → Type 0
LeadsUp at bytes place Top image m = IsTop m place
LeadsUp at bytes place PassedOver image m = IsPassedOver bytes m place
LeadsUp at bytes place (Selected up level) image m = IsSelected at bytes image m place up level

-- a place that a step leads to is one of so many
abbrev pub IsBelow : ℕ → Step → Type 0
IsBelow count Top = Unit {0}
IsBelow count PassedOver = Unit {0}
IsBelow count (Selected up level) = up < count

abbrev pub OptionalTextAt : ℕ → List ℕ → Option (List ℕ) → Type 0
OptionalTextAt reference image text = HasOptionalText image reference text

abbrev pub UnitAt : ℕ → List ℕ → List ℕ → Type 0
UnitAt reference image unit = HasUnit image reference unit

-- the signal of a row
pub record SignalOf (row : SignalRow) (image : List ℕ) (s : Signal) : Type 0 where
  pub name : HasText image row.name s.name
  pub shape : HasShape row.level.shape s
  pub coding : CodingOf row.coding image s.coding

-- a message that can be decoded, with its row at this place
pub record MessageAt (at : ℕ) (image : List ℕ) (m : Message) : Type 0 where
  pub message : HasMessage image at m
  pub decodable : IsDecodable m

-- the value of the signal at this place
abbrev pub IsValueAt : List ℕ → Message → ℕ → Option SignalValue → Type 0
IsValueAt bytes m place value = (s : Signal) → slice_get m.signals place ≡ Some s →
    value ≡ active_value bytes m.tree.parents (raw_values bytes m.signals) (place, s)
