-- The commands of the tool, each by its words: `decode BENCH`, `check FILE` and `mill N`. Other words ask for none.
use Rattle.std.specs.Prelude.{ℕ, ◌-◌, ◌==◌, Bool, List, [], ◌∷◌, drop, length, Option, Some, None, option_and_then, codes, if◌then◌else◌}
use Rattle.std.specs.Str.{bytes_eq, str_eq_ignore_ascii_case}
use Rattle.std.specs.Option.{option_map}
use Rattle.byte_forms.specs.declared.numerals.Radix.TheVariants.{Decimal}
use Rattle.byte_forms.specs.Numerals.{number_up_to}
use Rattle.tool_words.specs.Operands.{operands, only_operand}

-- decodes the logs of the bench file of this name, checks the database of this name, or decodes so many generated frames
pub data ToolCommand : Type 0 where
  Decodes : List ℕ → ToolCommand
  Checks : List ℕ → ToolCommand
  Mills : ℕ → ToolCommand

-- the most frames that are generated
abbrev pub most_frames : ℕ
most_frames = 1000000

abbrev pub positive : ℕ → Option ℕ
positive n = if n == 0 then None else Some n

-- the number that decimal digits denote, from 1 to the limit; zeros at the front count nothing
abbrev pub frame_count : List ℕ → Option ℕ
frame_count word = option_and_then positive (number_up_to Decimal most_frames word)

abbrev pub command_of : List (List ℕ) → Option ToolCommand
command_of [] = None
command_of (command ∷ words) =
    if bytes_eq command (codes "decode") then option_map Decodes (only_operand (operands words))
    else if bytes_eq command (codes "check") then option_map Checks (only_operand (operands words))
    else if bytes_eq command (codes "mill") then option_map Mills (option_and_then frame_count (only_operand (operands words)))
    else None

-- a name that ends in `.ldf`, in any ASCII case, is that of an LDF
abbrev pub is_ldf_name : List ℕ → Bool
is_ldf_name name = str_eq_ignore_ascii_case (drop (length name - 4) name) (codes ".ldf")
