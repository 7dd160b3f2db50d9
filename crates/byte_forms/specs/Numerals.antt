-- Numbers by their digits.
use Rattle.std.specs.Prelude.{ℕ, ◌+◌, ◌*◌, ◌&&◌, Bool, List, [], ◌∷◌, length, Option, Some, None, nat_le, nat_lt, if◌then◌else◌}
use Rattle.std.specs.Char.{digit_value, is_ascii_hexdigit}
use Rattle.std.specs.List.{list_all}
use Rattle.std.specs.Str.Parse.{digits_value}
use Rattle.byte_forms.specs.declared.class.Class.{Class}
use Rattle.byte_forms.specs.declared.class.Class.TheVariants as classes
use Rattle.byte_forms.specs.declared.numerals.Radix.{Radix}
use Rattle.byte_forms.specs.declared.numerals.Radix.TheVariants as radixes
use Rattle.byte_forms.specs.Classes.{is_in}

abbrev pub base_of : Radix → ℕ
base_of radixes.Decimal = 10
base_of radixes.Hexadecimal = 16

abbrev pub digit_class : Radix → Class
digit_class radixes.Decimal = classes.DecimalDigit
digit_class radixes.Hexadecimal = classes.HexadecimalDigit

-- the number that digits denote, the first one counting most; zeros at the front count nothing
abbrev pub number_of : Radix → List ℕ → ℕ
number_of radix digits = digits_value (base_of radix) digits

-- whether a text is one digit or more
abbrev pub is_numeral : Radix → List ℕ → Bool
is_numeral radix text = nat_lt 0 (length text) && list_all (is_in (digit_class radix)) text

-- the number that a text of digits denotes, where it is at most the limit
unfoldable pub number_up_to : Radix → ℕ → List ℕ → Option ℕ
number_up_to radix limit text =
    if is_numeral radix text && nat_le (number_of radix text) limit then Some (number_of radix text) else None

-- the byte that the two hexadecimal digits at the front denote, and the text after them
unfoldable pub hexadecimal_byte : List ℕ → Option (ℕ × List ℕ)
hexadecimal_byte [] = None
hexadecimal_byte (high ∷ []) = None
hexadecimal_byte (high ∷ low ∷ rest) =
    if is_ascii_hexdigit high && is_ascii_hexdigit low
    then Some (16 * digit_value high + digit_value low, rest)
    else None
