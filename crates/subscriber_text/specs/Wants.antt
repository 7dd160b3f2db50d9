-- What a subscriber wants of the buses, and in which format it is answered.
use Rattle.std.specs.Prelude.{ℕ, ◌==◌, ◌&&◌, ◌||◌, Bool, true, false, List, [], ◌∷◌, length, nat_lt, Option, Some, None}
use Rattle.std.specs.List.{list_any}
use Rattle.std.specs.Option.{option_eq}
use Rattle.std.specs.Str.{bytes_eq}
use Rattle.text_words.specs.Words.{is_empty}

-- A want: all of the bus at this place where no message is named, all of the messages of this name where no
-- signal is named, else that signal of them.
pub record Want : Type 0 where
  pub bus : ℕ
  pub message : Option (List ℕ)
  pub signal : Option (List ℕ)

-- The format, the names of the buses, and the wants in the order of their lines. No want at all wants
-- everything.
pub record WantList : Type 0 where
  pub format : ℕ
  pub names : List (List ℕ)
  pub wants : List Want

-- everything is wanted, or some want passes the test
abbrev pub wants_by : WantList → (Want → Bool) → Bool
wants_by w test = is_empty w.wants || list_any test w.wants

abbrev pub same_name : Option (List ℕ) → Option (List ℕ) → Bool
same_name a b = option_eq bytes_eq a b

-- a want names this bus; this message of it, or none; and this signal of that, or none
abbrev pub names_bus : ℕ → Want → Bool
names_bus bus want = want.bus == bus

abbrev pub names_message : ℕ → Option (List ℕ) → Want → Bool
names_message bus message want = names_bus bus want && same_name want.message message

abbrev pub names_signal : ℕ → Option (List ℕ) → Option (List ℕ) → Want → Bool
names_signal bus message signal want = names_message bus message want && same_name want.signal signal

-- whether anything of a bus is wanted; past the names of the buses nothing is
abbrev pub wants_bus : WantList → ℕ → Bool
wants_bus w bus = nat_lt bus (length w.names) && wants_by w (names_bus bus)

-- whether all of a bus is wanted
abbrev pub wants_whole_bus : WantList → ℕ → Bool
wants_whole_bus w bus = wants_by w (names_message bus None)

-- whether the first line of a record is wanted: of one that a message of this name matched, or that none did
abbrev pub wants_record : WantList → ℕ → Option (List ℕ) → Bool
wants_record w bus message = wants_whole_bus w bus || list_any (names_message bus message) w.wants

-- whether all signals of such a record are wanted, and whether this one is
abbrev pub wants_all_signals : WantList → ℕ → Option (List ℕ) → Bool
wants_all_signals w bus message = wants_whole_bus w bus || list_any (names_signal bus message None) w.wants

abbrev pub wants_signal : WantList → ℕ → Option (List ℕ) → List ℕ → Bool
wants_signal w bus message signal =
    wants_all_signals w bus message || list_any (names_signal bus message (Some signal)) w.wants
