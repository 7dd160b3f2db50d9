-- What each reader of a part of a statement finds.
use Rattle.std.specs.Prelude.{ℕ, Bool, true, false, List, Option, Some, None, codes}
use Rattle.sig_text.specs.declared.token.Token.{Token}
use Rattle.token_forms.specs.declared.numbers.SignedNumber.{SignedNumber}
use Rattle.token_forms.specs.Pieces.{token_text, word_at, string_at}
use Rattle.token_forms.specs.Numbers.{number_up_to_at, signed_at}
use Rattle.token_forms.specs.Runs.{Form}
use Rattle.ldf_grammar.specs.Sizes as kinds
use Rattle.ldf_grammar.specs.Sizes.{EntryKind, greatest_number, most_bits, last_identifier, most_bytes, last_offset, is_size, entry_kind}
use Rattle.ldf_grammar.specs.Forms.{◌>>=◌, say, demand, expect, either, until}
use Rattle.ldf_grammar.specs.declared.statement.SignalLine.{SignalLine}
use Rattle.ldf_grammar.specs.declared.statement.FrameSignal.{FrameSignal}
use Rattle.ldf_grammar.specs.declared.statement.Frame.{Frame}
use Rattle.ldf_grammar.specs.declared.statement.EncodingEntry.{EncodingEntry}
use Rattle.ldf_grammar.specs.declared.statement.EncodingEntry.TheVariants.{Logical, Physical, Plain}
use Rattle.ldf_grammar.specs.declared.statement.Encoding.{Encoding}
use Rattle.ldf_grammar.specs.declared.statement.Representation.{Representation}

-- a comma, and a word, a number or a signed number
unfoldable pub next_word : List ℕ → Form Token
next_word text = do
  _ ← expect text (codes ",")
  word_at

unfoldable pub next_number : List ℕ → Form ℕ
next_number text = do
  _ ← expect text (codes ",")
  number_up_to_at text greatest_number

unfoldable pub next_signed : List ℕ → Form SignedNumber
next_signed text = do
  _ ← expect text (codes ",")
  signed_at text

-- the initial value of a signal; whether it is in braces
unfoldable pub array_value : List ℕ → Form Bool
array_value text = do
  _ ← number_up_to_at text greatest_number
  _ ← until text (codes "}") (next_number text)
  say true

unfoldable pub number_value : List ℕ → Form Bool
number_value text = do
  _ ← number_up_to_at text greatest_number
  say false

unfoldable pub initial_value : List ℕ → Form Bool
initial_value text = either text (codes "{") (array_value text) (number_value text)

-- the name and the size of a signal
unfoldable pub signal_size : List ℕ → Form (Token × ℕ)
signal_size text = do
  name ← word_at
  _ ← expect text (codes ":")
  size ← number_up_to_at text most_bits
  _ ← expect text (codes ",")
  say (name, size)

unfoldable pub signal_line : List ℕ → Form SignalLine
signal_line text = do
  sized ← signal_size text
  is_array ← initial_value text
  _ ← demand (is_size sized.1 is_array)
  _ ← next_word text
  _ ← until text (codes ";") (next_word text)
  say (record { name = sized.0; size = sized.1; is_array = is_array })

unfoldable pub frame_signal : List ℕ → Form FrameSignal
frame_signal text = do
  name ← word_at
  _ ← expect text (codes ",")
  offset ← number_up_to_at text last_offset
  _ ← expect text (codes ";")
  say (record { name = name; offset = offset })

unfoldable pub frame_id : List ℕ → Form (Token × ℕ)
frame_id text = do
  name ← word_at
  _ ← expect text (codes ":")
  id ← number_up_to_at text last_identifier
  _ ← expect text (codes ",")
  say (name, id)

unfoldable pub frame_length : List ℕ → Form ℕ
frame_length text = do
  _ ← word_at
  _ ← expect text (codes ",")
  length ← number_up_to_at text most_bytes
  _ ← expect text (codes "{")
  say length

unfoldable pub frame : List ℕ → Form Frame
frame text = do
  named ← frame_id text
  length ← frame_length text
  signals ← until text (codes "}") (frame_signal text)
  say (record { name = named.0; id = named.1; length = length; signals = signals })

-- the end of an entry: a semicolon, or a comma, a string and a semicolon
unfoldable pub string_end : List ℕ → Form (Option Token)
string_end text = do
  string ← string_at
  _ ← expect text (codes ";")
  say (Some string)

unfoldable pub plain_end : {A : Type 0} → List ℕ → A → Form A
plain_end text x = do
  _ ← expect text (codes ";")
  say x

unfoldable pub last_string : List ℕ → Form (Option Token)
last_string text = either text (codes ",") (string_end text) (plain_end text None)

unfoldable pub logical : List ℕ → Form EncodingEntry
logical text = do
  raw ← next_number text
  words ← last_string text
  say (Logical raw words)

unfoldable pub physical : List ℕ → ℕ → Form EncodingEntry
physical text at = do
  low ← next_number text
  high ← next_number text
  scale ← next_signed text
  offset ← next_signed text
  unit ← last_string text
  say (Physical at low high scale offset unit)

-- an entry behind its word
abbrev pub entry_by : List ℕ → ℕ → Option EntryKind → Form EncodingEntry
entry_by text at None tokens = None
entry_by text at (Some kinds.Logical) tokens = logical text tokens
entry_by text at (Some kinds.Physical) tokens = physical text at tokens
entry_by text at (Some kinds.Plain) tokens = plain_end text Plain tokens

unfoldable pub entry : List ℕ → Form EncodingEntry
entry text = do
  word ← word_at
  entry_by text word.at (entry_kind (token_text text word))

unfoldable pub word_before : List ℕ → List ℕ → Form Token
word_before text literal = do
  word ← word_at
  _ ← expect text literal
  say word

unfoldable pub encoding : List ℕ → Form Encoding
encoding text = do
  name ← word_before text (codes "{")
  entries ← until text (codes "}") (entry text)
  say (record { name = name; entries = entries })

unfoldable pub representation : List ℕ → Form Representation
representation text = do
  encoding ← word_before text (codes ":")
  first ← word_at
  others ← until text (codes ";") (next_word text)
  say (record { encoding = encoding; first = first; others = others })
