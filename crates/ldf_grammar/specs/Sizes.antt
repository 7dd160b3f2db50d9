-- The limits of the numbers of an LDF, and the words that its sections and entries begin with (LIN Specification
-- Package 2.1, "Configuration language"; the limits are this project's own).
use Rattle.std.specs.Prelude.{ℕ, ◌%◌, ◌==◌, ◌&&◌, ◌||◌, Bool, List, Option, Some, None, codes, nat_le, if◌then◌else◌}
use Rattle.std.specs.Str.{bytes_eq}

-- every number is below 2^63
abbrev pub greatest_number : ℕ
greatest_number = 9223372036854775807

-- bits of a signal, the last identifier and the most bytes of a frame, and the last place of a signal in it
abbrev pub most_bits : ℕ
most_bits = 64

abbrev pub last_identifier : ℕ
last_identifier = 63

abbrev pub most_bytes : ℕ
most_bytes = 8

abbrev pub last_offset : ℕ
last_offset = 14279

-- a signal whose initial value is a number has 1 to 16 bits, a byte array has 1 to 8 whole bytes
abbrev pub is_size : ℕ → Bool → Bool
is_size size is_array =
    if is_array then size % 8 == 0 && (nat_le 8 size && nat_le size most_bits) else nat_le 1 size && nat_le size 16

-- the kinds of entries, and the sections that are kept, with all others
pub data EntryKind : Type 0 where
  Logical : EntryKind
  Physical : EntryKind
  Plain : EntryKind

pub data Section : Type 0 where
  Signals : Section
  Frames : Section
  Encodings : Section
  Representations : Section
  Other : Section

-- the kind of entry that a word begins
abbrev pub entry_kind : List ℕ → Option EntryKind
entry_kind word =
    if bytes_eq word (codes "logical_value") then Some Logical
    else if bytes_eq word (codes "physical_value") then Some Physical
    else if bytes_eq word (codes "bcd_value") || bytes_eq word (codes "ascii_value") then Some Plain
    else None

-- the section that a word begins
abbrev pub section_of : List ℕ → Section
section_of word =
    if bytes_eq word (codes "Signals") then Signals
    else if bytes_eq word (codes "Frames") then Frames
    else if bytes_eq word (codes "Signal_encoding_types") then Encodings
    else if bytes_eq word (codes "Signal_representation") then Representations
    else Other
