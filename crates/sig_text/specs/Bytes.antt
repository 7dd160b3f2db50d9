-- The classes of bytes of DBC and LDF text, and the bytes with a part of their own.
use Rattle.std.specs.Prelude.{ℕ, Bool, not, ◌||◌, ◌==◌, codes}
use Rattle.std.specs.List.{list_any}
use Rattle.std.specs.Char.{is_ascii_alphabetic, is_ascii_alphanumeric}
use Rattle.std.specs.Int.{is_in_range}

abbrev pub line_feed : ℕ
line_feed = 10

abbrev pub quote : ℕ
quote = 34

abbrev pub star : ℕ
star = 42

abbrev pub slash : ℕ
slash = 47

abbrev pub backslash : ℕ
backslash = 92

abbrev pub underscore : ℕ
underscore = 95

-- tab, line feed, vertical tab, form feed, carriage return and space
abbrev pub is_space : ℕ → Bool
is_space b = is_in_range 9 13 b || b == 32

-- what a word begins with: an ASCII letter or `_`
abbrev pub is_word_start : ℕ → Bool
is_word_start b = is_ascii_alphabetic b || b == underscore

-- what a word goes on with: an ASCII letter, a digit or `_`
abbrev pub is_word_byte : ℕ → Bool
is_word_byte b = is_ascii_alphanumeric b || b == underscore

abbrev pub is_point : ℕ → Bool
is_point b = b == 46

-- the `0` of `0x1F`
abbrev pub is_nought : ℕ → Bool
is_nought b = b == 48

-- `x` or `X`, as in `0x1F`
abbrev pub is_hexadecimal_mark : ℕ → Bool
is_hexadecimal_mark b = b == 120 || b == 88

-- `e` or `E`, as in `1e-3`
abbrev pub is_exponent_mark : ℕ → Bool
is_exponent_mark b = b == 101 || b == 69

-- `+` or `-`
abbrev pub is_plus_or_minus : ℕ → Bool
is_plus_or_minus b = b == 43 || b == 45

-- the marks of the DBC and LDF grammars
abbrev pub is_sign : ℕ → Bool
is_sign b = list_any (λ sign. b == sign) (codes ":;,|@+-()[]{}=.")

-- all but the line feed, which ends a line comment
abbrev pub is_in_line : ℕ → Bool
is_in_line b = not (b == line_feed)
