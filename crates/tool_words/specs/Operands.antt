-- The words of a command line, after the POSIX utility syntax: the first `--` is dropped and ends the
-- options, and a single `-` is no option.
use Rattle.std.specs.Prelude.{ℕ, ◌&&◌, ◌==◌, Bool, false, not, List, [], ◌∷◌, Option, Some, None, codes, if◌then◌else◌}
use Rattle.std.specs.Str.{bytes_eq}
use Rattle.std.specs.Option.{option_map}
use Rattle.byte_forms.specs.Bytes.{hyphen}

-- whether a word begins with `-` and is more than that
abbrev pub is_option : List ℕ → Bool
is_option [] = false
is_option (b ∷ rest) = b == hyphen && not (bytes_eq rest [])

-- whether a word is `--`
abbrev pub is_dashes : List ℕ → Bool
is_dashes word = bytes_eq word (codes "--")

-- the operands among these words, unless an option is before the first `--`
abbrev pub operands : List (List ℕ) → Option (List (List ℕ))
operands [] = Some []
operands (word ∷ words) =
    if is_dashes word then Some words
    else if is_option word then None else option_map (λ others. word ∷ others) (operands words)

-- the only one of these operands
abbrev pub only_operand : Option (List (List ℕ)) → Option (List ℕ)
only_operand (Some (operand ∷ [])) = Some operand
only_operand (Some (operand ∷ other ∷ others)) = None
only_operand (Some []) = None
only_operand None = None
