-- How statements name messages and signals. An identifier from 2^31 on is one of 29 bits, its bits 29 and 30 passed over.
use Rattle.std.specs.Prelude.{ℕ, ◌%◌, ◌==◌, ◌&&◌, ◌||◌, not, Bool, true, false, List, [], filter, Option, Some, None, nat_le, nat_lt, if◌then◌else◌}
use Rattle.std.specs.List.{position_from}
use Rattle.std.specs.Str.{bytes_eq}
use Rattle.bench_model.specs.declared.database.Key.{Key}
use Rattle.bench_model.specs.Meaning.{same_bool}
use Rattle.token_forms.specs.Pieces.{token_text}
use Rattle.dbc_grammar.specs.Limits.{last_short_id, first_long_id, long_ids}
use Rattle.dbc_grammar.specs.declared.statement.Note.{Note}
use Rattle.dbc_grammar.specs.declared.statement.SignalForm.{SignalForm}
use Rattle.dbc_grammar.specs.declared.statement.MessageForm.{MessageForm}

-- the identifier of the message of signals without message, which is left out
abbrev pub independent : ℕ
independent = 3221225472

abbrev pub key_of : ℕ → Key
key_of id =
    if nat_lt id first_long_id
    then record { extended = false; id = id }
    else record { extended = true; id = id % long_ids }

abbrev pub same_key : Key → Key → Bool
same_key a b = same_bool a.extended b.extended && (a.id == b.id)

-- whether an identifier names a message: 3221225472 and those from 2,048 to 2^31 - 1 name none
abbrev pub is_named_id : ℕ → Bool
is_named_id id = not (id == independent) && (nat_le id last_short_id || nat_le first_long_id id)

-- whether a note names the signal of this name in the message with this key
abbrev pub names_signal : List ℕ → Key → List ℕ → Note → Bool
names_signal text key name note =
    is_named_id note.id && (same_key (key_of note.id) key && bytes_eq (token_text text note.signal) name)

abbrev pub message_key : MessageForm → Key
message_key m = key_of m.heading.id

abbrev pub has_key : Key → MessageForm → Bool
has_key key m = same_key (message_key m) key

abbrev pub has_name : List ℕ → List ℕ → SignalForm → Bool
has_name text name s = bytes_eq (token_text text s.name) name

-- the first message with a key, and the first signal with a name
abbrev pub place_of_key : Key → List MessageForm → Option ℕ
place_of_key key messages = position_from (has_key key) 0 messages

abbrev pub place_of_name : List ℕ → List ℕ → List SignalForm → Option ℕ
place_of_name text name signals = position_from (has_name text name) 0 signals

-- whether the place is this one
abbrev pub is_place : ℕ → Option ℕ → Bool
is_place i None = false
is_place i (Some j) = i == j

-- whether the message at place i is the first with its key, so that statements name it
abbrev pub is_first_message : List MessageForm → ℕ → MessageForm → Bool
is_first_message messages i m = is_place i (place_of_key (message_key m) messages)

-- the notes on the signal of a name in the message with a key, and the place of the first signal with a name
abbrev pub Noted : Type 0
Noted = Key → List ℕ → List Note

abbrev pub Places : Type 0
Places = List ℕ → Option ℕ

-- those of a file's notes, in file order
abbrev pub noted_in : List ℕ → List Note → Noted
noted_in text notes key name = filter (names_signal text key name) notes

-- those of a message's signals
abbrev pub places_in : List ℕ → MessageForm → Places
places_in text m name = place_of_name text name m.signals

-- the notes on the signal at place j of a message, in file order, where it is the first with its name in the message;
-- named says whether the message is the first with its key, so that statements name it
abbrev pub notes_on : List ℕ → Noted → Places → Bool → Key → ℕ → SignalForm → List Note
notes_on text noted place_of named key j s =
    if named && is_place j (place_of (token_text text s.name)) then noted key (token_text text s.name) else []
