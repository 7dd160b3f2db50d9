-- The messages that statements make, but for their trees.
use Rattle.std.specs.Prelude.{◌≡◌, ℕ, ℤ, ◌==◌, Bool, false, List, [], ◌∷◌, map, Option, Some, None, nat_lt, if◌then◌else◌}
use Rattle.std.specs.List.{flat_map, enumerate_from, AllZip}
use Rattle.exact_scale.specs.declared.scaling.Scale.{Scale}
use Rattle.multiplex_tree.specs.declared.mark.Link.{Link}
use Rattle.multiplex_tree.specs.declared.mark.Mark.{Mark}
use Rattle.bench_model.specs.declared.database.Label.{Label}
use Rattle.bench_model.specs.declared.database.Coding.TheVariants.{Scaled}
use Rattle.bench_model.specs.declared.database.Signal.{Signal}
use Rattle.sig_text.specs.Content.{content_of}
use Rattle.sig_text.specs.declared.token.Token.{Token}
use Rattle.token_forms.specs.Pieces.{token_text}
use Rattle.token_forms.specs.Numbers.{signed_text, whole_value}
use Rattle.token_forms.specs.Scaling.{IsScaling, HasNoScaling}
use Rattle.dbc_grammar.specs.declared.statement.Statement.{Statement}
use Rattle.dbc_grammar.specs.declared.statement.Statement.TheVariants as statement
use Rattle.dbc_grammar.specs.declared.statement.Says.{Says}
use Rattle.dbc_grammar.specs.declared.statement.Says.TheVariants as says
use Rattle.dbc_grammar.specs.declared.statement.Note.{Note}
use Rattle.dbc_grammar.specs.declared.statement.ValueText.{ValueText}
use Rattle.dbc_grammar.specs.declared.statement.Scaling.{Scaling}
use Rattle.dbc_grammar.specs.declared.statement.SignalForm.{SignalForm}
use Rattle.dbc_grammar.specs.declared.statement.MessageForm.{MessageForm}
use Rattle.dbc_grammar.specs.Naming.{Noted, Places, independent, message_key, places_in, notes_on}

-- the messages of the statements in file order, but for the independent one, and the notes
abbrev pub messages_in : Statement → List MessageForm
messages_in statement.Unkept = []
messages_in (statement.Message m) = if m.heading.id == independent then [] else m ∷ []
messages_in (statement.Noted note) = []

abbrev pub notes_in : Statement → List Note
notes_in statement.Unkept = []
notes_in (statement.Message m) = []
notes_in (statement.Noted note) = note ∷ []

abbrev pub messages_of : List Statement → List MessageForm
messages_of statements = flat_map messages_in statements

abbrev pub notes_of : List Statement → List Note
notes_of statements = flat_map notes_in statements

-- the label that a value text makes; one whose number is not a whole number that raw values may have makes none
abbrev pub label_by : List ℕ → Bool → Token → Option ℤ → List Label
label_by text utf8 token None = []
label_by text utf8 token (Some raw) = record { raw = raw; text = content_of text token utf8 } ∷ []

abbrev pub labels_of_text : List ℕ → Bool → ValueText → List Label
labels_of_text text utf8 v = label_by text utf8 v.text (whole_value text v.number)

abbrev pub labels_said : List ℕ → Bool → Says → List Label
labels_said text utf8 (says.Texts texts) = flat_map (labels_of_text text utf8) texts
labels_said text utf8 (says.Type kind) = []
labels_said text utf8 (says.Below multiplexor ranges) = []

abbrev pub labels_in : List ℕ → Bool → Note → List Label
labels_in text utf8 note = labels_said text utf8 note.says

-- whether the signal is a float after one more note, and after all: the last value type counts
abbrev pub float_said : Bool → Says → Bool
float_said float (says.Texts texts) = float
float_said float (says.Type kind) = nat_lt 0 kind
float_said float (says.Below multiplexor ranges) = float

abbrev pub float_after : Bool → List Note → Bool
float_after float [] = float
float_after float (note ∷ notes) = float_after (float_said float note.says) notes

-- the link of a note on the signal at place j: an unknown multiplexor gives one without parent
abbrev pub links_said : List ℕ → Places → ℕ → Says → List Link
links_said text place_of j (says.Texts texts) = []
links_said text place_of j (says.Type kind) = []
links_said text place_of j (says.Below multiplexor ranges) =
    record { child = j; parent = place_of (token_text text multiplexor); ranges = ranges } ∷ []

abbrev pub links_in : List ℕ → Places → ℕ → Note → List Link
links_in text place_of j note = links_said text place_of j note.says

-- the links of a signal, and of a message: signal after signal
abbrev pub signal_links : List ℕ → Noted → Bool → MessageForm → ℕ × SignalForm → List Link
signal_links text noted named m x =
    flat_map (links_in text (places_in text m) x.0) (notes_on text noted (places_in text m) named (message_key m) x.0 x.1)

abbrev pub message_links : List ℕ → Noted → Bool → MessageForm → List Link
message_links text noted named m = flat_map (signal_links text noted named m) (enumerate_from 0 m.signals)

abbrev pub message_marks : MessageForm → List Mark
message_marks m = map (λ (s : SignalForm). s.mark) m.signals

-- the scale of a signal's factor and offset
abbrev pub IsScaleOf : List ℕ → Scaling → Scale → Type 0
IsScaleOf text scaling scale = IsScaling (signed_text text scaling.factor) (signed_text text scaling.offset) scale

-- no scale within the limits is theirs
abbrev pub IsTooWide : List ℕ → Scaling → Type 0
IsTooWide text scaling = HasNoScaling (signed_text text scaling.factor) (signed_text text scaling.offset)

-- the signal that a statement and the notes on it make
pub record IsSignalOf (text : List ℕ) (utf8 : Bool) (form : SignalForm) (notes : List Note) (s : Signal) : Type 0 where
  pub name : s.name ≡ token_text text form.name
  pub start : s.start ≡ form.place.start
  pub size : s.size ≡ form.place.size
  pub order : s.order ≡ form.place.order
  pub signed : s.signed ≡ form.place.signed
  pub float : s.float ≡ float_after false notes
  pub scale : Scale
  pub is_scale : IsScaleOf text form.scaling scale
  pub coding : s.coding ≡ Scaled scale (content_of text form.unit utf8) (flat_map (labels_in text utf8) notes)

-- the signals of a message, in file order
abbrev pub IsSignalAt : List ℕ → Bool → Noted → Bool → MessageForm → ℕ × SignalForm → Signal → Type 0
IsSignalAt text utf8 noted named m x s =
    IsSignalOf text utf8 x.1 (notes_on text noted (places_in text m) named (message_key m) x.0 x.1) s

abbrev pub AreSignalsOf : List ℕ → Bool → Noted → Bool → MessageForm → List Signal → Type 0
AreSignalsOf text utf8 noted named m signals =
    AllZip (IsSignalAt text utf8 noted named m) (enumerate_from 0 m.signals) signals
