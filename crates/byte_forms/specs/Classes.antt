-- Classes of bytes, and the runs of them at the front of a text.
use Rattle.std.specs.Prelude.{ℕ, ◌==◌, ◌||◌, Bool, not, List, drop}
use Rattle.std.specs.Char.{is_ascii_digit, is_ascii_hexdigit, is_ascii_alphanumeric}
use Rattle.std.specs.List.{prefix_len}
use Rattle.byte_forms.specs.Bytes.{tab, carriage_return, line_feed, space, underscore}
use Rattle.byte_forms.specs.declared.class.Class.{Class}
use Rattle.byte_forms.specs.declared.class.Class.TheVariants as classes

-- whether a byte is of a class
abbrev pub is_in : Class → ℕ → Bool
is_in classes.NonBlank b = not (b == space || (b == tab || b == carriage_return))
is_in classes.LineByte b = not (b == line_feed)
is_in classes.WordByte b = is_ascii_alphanumeric b || b == underscore
is_in classes.DecimalDigit b = is_ascii_digit b
is_in classes.HexadecimalDigit b = is_ascii_hexdigit b

-- the rest of a list from the first element on that fails the test
abbrev pub drop_while : {X : Type 0} → (X → Bool) → List X → List X
drop_while p xs = drop (prefix_len p xs) xs
