-- What a line of a bench file says: nothing, a bus, or a number. A line of another form says none of these.
use Rattle.std.specs.Prelude.{ℕ, ◌==◌, ◌&&◌, Bool, true, false, not, List, [], ◌∷◌, length, codes, nat_le, nat_lt, Option, Some, None, if◌then◌else◌}
use Rattle.std.specs.List.{list_all}
use Rattle.std.specs.Str.{bytes_eq, is_utf8}
use Rattle.byte_forms.specs.Bytes.{hash, digit_zero}
use Rattle.byte_forms.specs.declared.class.Class.TheVariants as classes
use Rattle.byte_forms.specs.declared.numerals.Radix.TheVariants as radixes
use Rattle.byte_forms.specs.Classes.{is_in}
use Rattle.byte_forms.specs.Numerals.{number_up_to}
use Rattle.text_words.specs.Words.{is_empty, words_of}
use Rattle.bench_model.specs.declared.database.Kind.{Kind}
use Rattle.bench_model.specs.declared.database.Kind.TheVariants as kinds
use Rattle.bench_model.specs.ValidBench.{longest_bus_name}
use Rattle.bench_file.specs.declared.plan.PlannedBus.{PlannedBus}
use Rattle.bench_file.specs.declared.setting.Setting.{Setting}
use Rattle.bench_file.specs.Settings.{setting_of, least, greatest}

pub data LineMeaning : Type 0 where
  PassedOver : LineMeaning
  NamesBus : PlannedBus → LineMeaning
  SetsNumber : Setting → ℕ → LineMeaning
  OtherForm : LineMeaning

-- how many bytes a line may have
abbrev pub longest_line : ℕ
longest_line = 1024

-- how many bytes the name of a file may have
abbrev pub longest_file_name : ℕ
longest_file_name = 255

-- 1 to 32 letters, digits and underscores
abbrev pub is_bus_name : List ℕ → Bool
is_bus_name name = nat_le 1 (length name) && (nat_le (length name) longest_bus_name && list_all (is_in classes.WordByte) name)

-- 1 to 255 bytes of UTF-8
abbrev pub is_file_name : List ℕ → Bool
is_file_name name = nat_le 1 (length name) && (nat_le (length name) longest_file_name && is_utf8 name)

-- no name, or that of a file
abbrev pub is_file_name_or_none : Option (List ℕ) → Bool
is_file_name_or_none None = true
is_file_name_or_none (Some name) = is_file_name name

-- the kind of bus that a word names
abbrev pub kind_of : List ℕ → Option Kind
kind_of word =
    if bytes_eq word (codes "can") then Some kinds.Can
    else if bytes_eq word (codes "j1939") then Some kinds.J1939
    else if bytes_eq word (codes "lin") then Some kinds.Lin
    else None

-- a bus of these words, where each is of its form
abbrev pub bus_of : List ℕ → Option Kind → List ℕ → Option (List ℕ) → LineMeaning
bus_of name None log database = OtherForm
bus_of name (Some kind) log database =
    if is_bus_name name && (is_file_name log && is_file_name_or_none database)
    then NamesBus (record { name = name; kind = kind; log = log; database = database }) else OtherForm

-- behind the word `bus`: a name, a kind, a log and maybe a database
abbrev pub bus_line : List (List ℕ) → LineMeaning
bus_line (name ∷ kind ∷ log ∷ []) = bus_of name (kind_of kind) log None
bus_line (name ∷ kind ∷ log ∷ database ∷ []) = bus_of name (kind_of kind) log (Some database)
bus_line words = OtherForm

-- a zero with digits behind it
abbrev pub has_leading_zero : List ℕ → Bool
has_leading_zero [] = false
has_leading_zero (b ∷ bs) = b == digit_zero && not (is_empty bs)

-- a number that is in the range below its greatest one
abbrev pub from_least : Setting → Option ℕ → LineMeaning
from_least setting None = OtherForm
from_least setting (Some n) = if nat_le (least setting) n then SetsNumber setting n else OtherForm

-- behind the word of a number: its decimal digits, without a leading zero
abbrev pub number_line : Option Setting → List (List ℕ) → LineMeaning
number_line None words = OtherForm
number_line (Some setting) (digits ∷ []) =
    if has_leading_zero digits then OtherForm else from_least setting (number_up_to radixes.Decimal (greatest setting) digits)
number_line (Some setting) words = OtherForm

-- a line of these words; one without a word is passed over
abbrev pub words_meaning : List (List ℕ) → LineMeaning
words_meaning [] = PassedOver
words_meaning (word ∷ words) = if bytes_eq word (codes "bus") then bus_line words else number_line (setting_of word) words

-- a line whose first byte is `#`
abbrev pub is_comment : List ℕ → Bool
is_comment [] = false
is_comment (b ∷ bs) = b == hash

-- what a line says; one that is too long is of another form, also where it is else passed over
abbrev pub meaning_of : List ℕ → LineMeaning
meaning_of line =
    if nat_lt longest_line (length line) then OtherForm
    else if is_comment line then PassedOver
    else words_meaning (words_of line)
