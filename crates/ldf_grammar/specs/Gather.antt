-- The database that statements make: frames become messages; of two definitions of one name the first counts.
use Rattle.std.specs.Prelude.{◌≡◌, ℕ, false, List, [], ◌∷◌, length, map, replicate, Option, Some, None, if◌then◌else◌}
use Rattle.std.specs.List.{flat_map, AllZip}
use Rattle.std.specs.Str.{bytes_eq}
use Rattle.sig_text.specs.declared.token.Token.{Token}
use Rattle.token_forms.specs.Pieces.{token_text}
use Rattle.bench_model.specs.declared.database.Order.TheVariants.{Intel}
use Rattle.bench_model.specs.declared.database.Entry.{Entry}
use Rattle.bench_model.specs.declared.database.Coding.TheVariants.{Listed}
use Rattle.bench_model.specs.declared.database.Signal.{Signal}
use Rattle.bench_model.specs.declared.database.Message.{Message}
use Rattle.bench_model.specs.declared.database.Database.{Database}
use Rattle.ldf_grammar.specs.Scaling.{IsEntryOf}
use Rattle.ldf_grammar.specs.declared.statement.SignalLine.{SignalLine}
use Rattle.ldf_grammar.specs.declared.statement.FrameSignal.{FrameSignal}
use Rattle.ldf_grammar.specs.declared.statement.Frame.{Frame}
use Rattle.ldf_grammar.specs.declared.statement.Encoding.{Encoding}
use Rattle.ldf_grammar.specs.declared.statement.Representation.{Representation}
use Rattle.ldf_grammar.specs.declared.statement.Statement.{Statement}
use Rattle.ldf_grammar.specs.declared.statement.Statement.TheVariants.{Signals, Frames, Encodings, Representations, PassedOver}

-- the first value of the name
unfoldable pub first_of : {T : Type 0} → List ℕ → List (List ℕ × T) → Option T
first_of name [] = None
first_of name (pair ∷ pairs) = if bytes_eq pair.0 name then Some pair.1 else first_of name pairs

-- the signals that are defined, by name
abbrev pub named_line : List ℕ → SignalLine → List ℕ × SignalLine
named_line text line = (token_text text line.name, line)

abbrev pub signals_in : List ℕ → Statement → List (List ℕ × SignalLine)
signals_in text (Signals lines) = map (named_line text) lines
signals_in text (Frames frames) = []
signals_in text (Encodings encodings) = []
signals_in text (Representations lines) = []
signals_in text PassedOver = []

abbrev pub defined_signals : List ℕ → List Statement → List (List ℕ × SignalLine)
defined_signals text statements = flat_map (signals_in text) statements

-- which encoding is stated for which signal, by the signal's name
abbrev pub stated : List ℕ → Token → Token → List ℕ × Token
stated text encoding signal = (token_text text signal, encoding)

abbrev pub stated_by : List ℕ → Representation → List (List ℕ × Token)
stated_by text line = map (stated text line.encoding) (line.first ∷ line.others)

abbrev pub stated_in : List ℕ → Statement → List (List ℕ × Token)
stated_in text (Signals lines) = []
stated_in text (Frames frames) = []
stated_in text (Encodings encodings) = []
stated_in text (Representations lines) = flat_map (stated_by text) lines
stated_in text PassedOver = []

abbrev pub stated_encodings : List ℕ → List Statement → List (List ℕ × Token)
stated_encodings text statements = flat_map (stated_in text) statements

-- all encodings in order, and their entries in the model by name
abbrev pub encodings_in : Statement → List Encoding
encodings_in (Signals lines) = []
encodings_in (Frames frames) = []
encodings_in (Encodings encodings) = encodings
encodings_in (Representations lines) = []
encodings_in PassedOver = []

abbrev pub all_encodings : List Statement → List Encoding
all_encodings statements = flat_map encodings_in statements

pub record IsCoded (text : List ℕ) (encoding : Encoding) (pair : List ℕ × List Entry) : Type 0 where
  pub name : pair.0 ≡ token_text text encoding.name
  pub entries : AllZip (IsEntryOf text) encoding.entries pair.1

abbrev pub AreCoded : List ℕ → List Statement → List (List ℕ × List Entry) → Type 0
AreCoded text statements coded = AllZip (IsCoded text) (all_encodings statements) coded

-- what names stand for
pub record Definitions : Type 0 where
  pub signals : List (List ℕ × SignalLine)
  pub stated : List (List ℕ × Token)
  pub coded : List (List ℕ × List Entry)

abbrev pub definitions_of : List ℕ → List Statement → List (List ℕ × List Entry) → Definitions
definitions_of text statements coded = record {
  signals = defined_signals text statements;
  stated = stated_encodings text statements;
  coded = coded;
}

-- the entries of a signal: those of the encoding that is first stated for it, if it is defined
abbrev pub entries_or_none : Option (List Entry) → List Entry
entries_or_none None = []
entries_or_none (Some entries) = entries

abbrev pub entries_by : List ℕ → Definitions → Option Token → Option (List Entry)
entries_by text d None = None
entries_by text d (Some encoding) = first_of (token_text text encoding) d.coded

abbrev pub entries_for : List ℕ → Definitions → List ℕ → Option (List Entry)
entries_for text d name = entries_by text d (first_of name d.stated)

-- a byte array has no entries
abbrev pub entries_of : List ℕ → Definitions → List ℕ → SignalLine → List Entry
entries_of text d name line = if line.is_array then [] else entries_or_none (entries_for text d name)

-- the signal of a frame: little endian, unsigned, and without parent
abbrev pub signal_of : List ℕ → Definitions → FrameSignal → SignalLine → Signal
signal_of text d signal line = record {
  name = token_text text signal.name;
  start = signal.offset;
  size = line.size;
  order = Intel;
  signed = false;
  float = false;
  coding = Listed (entries_of text d (token_text text signal.name) line);
}

abbrev pub signal_by : List ℕ → Definitions → FrameSignal → Option SignalLine → List Signal
signal_by text d signal None = []
signal_by text d signal (Some line) = signal_of text d signal line ∷ []

abbrev pub signal_in : List ℕ → Definitions → FrameSignal → List Signal
signal_in text d signal = signal_by text d signal (first_of (token_text text signal.name) d.signals)

abbrev pub signals_of : List ℕ → Definitions → Frame → List Signal
signals_of text d frame = flat_map (signal_in text d) frame.signals

-- the message of a frame, with an identifier of 11 bits
abbrev pub message_with : List ℕ → Frame → List Signal → Message
message_with text frame signals = record {
  name = token_text text frame.name;
  key = record { extended = false; id = frame.id };
  length = frame.length;
  signals = signals;
  tree = record { parents = replicate (length signals) None };
}

abbrev pub message_of : List ℕ → Definitions → Frame → Message
message_of text d frame = message_with text frame (signals_of text d frame)

abbrev pub messages_in : List ℕ → Definitions → Statement → List Message
messages_in text d (Signals lines) = []
messages_in text d (Frames frames) = map (message_of text d) frames
messages_in text d (Encodings encodings) = []
messages_in text d (Representations lines) = []
messages_in text d PassedOver = []

abbrev pub messages_of : List ℕ → Definitions → List Statement → List Message
messages_of text d statements = flat_map (messages_in text d) statements

abbrev pub database_of : List ℕ → Definitions → List Statement → Database
database_of text d statements = record { messages = messages_of text d statements }
