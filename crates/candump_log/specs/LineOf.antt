-- What a text says, read from its front: one function for each piece of a line, which gives what the piece says and the
-- text behind it. The laws of `line` show that this is what `Line` says.
use Rattle.std.specs.Prelude.{ℕ, zero, suc, ◌+◌, ◌-◌, ◌*◌, ◌==◌, ◌&&◌, ◌||◌, Bool, true, false, List, [], ◌∷◌, length, take, drop, codes, nat_le, Option, Some, None, if◌then◌else◌}
use Rattle.std.specs.Option.{option_map}
use Rattle.std.specs.Char.{is_ascii_digit, is_ascii_hexdigit}
use Rattle.std.specs.List.{prefix_len}
use Rattle.byte_forms.specs.Bytes.{hash, dot, digit_zero, underscore}
use Rattle.byte_forms.specs.declared.class.Class.TheVariants as classes
use Rattle.byte_forms.specs.declared.numerals.Radix.TheVariants as radixes
use Rattle.byte_forms.specs.Classes.{is_in}
use Rattle.byte_forms.specs.Numerals.{number_of, number_up_to, hexadecimal_byte}
use Rattle.byte_forms.specs.Pieces.{after_literal, field_before, ◌>>=◌}
use Rattle.bench_model.specs.declared.database.Key.{Key}
use Rattle.candump_log.specs.declared.log_line.LogLine.{LogLine}
use Rattle.candump_log.specs.declared.log_line.LogLine.TheVariants as line
use Rattle.candump_log.specs.declared.log_line.Span.{Span}
use Rattle.candump_log.specs.Bytes.{digit_eight, capital_r, small_r}
use Rattle.candump_log.specs.Data.{classic_limit, data_limit}
use Rattle.candump_log.specs.Line.{line_limit, standard_limit, extended_limit, is_blank, line_from}

-- the decimal digits at the front, where they are not more than `most`: how many, and their number
unfoldable pub digits_prefix : ℕ → List ℕ → Option (ℕ × ℕ)
digits_prefix most bytes =
    if nat_le (prefix_len is_ascii_digit bytes) most
    then Some (prefix_len is_ascii_digit bytes, number_of radixes.Decimal (take (prefix_len is_ascii_digit bytes) bytes))
    else None

-- the number of the digits before a literal
unfoldable pub number_before : ℕ → ℕ → List ℕ → List ℕ → Option (ℕ × List ℕ)
number_before least most literal bytes = do
  digits ← digits_prefix most bytes
  rest ← after_literal literal (drop digits.0 bytes)
  (if nat_le least digits.0 then Some (digits.1, rest) else None)

-- the stamp
unfoldable pub stamp_prefix : List ℕ → Option (ℕ × List ℕ)
stamp_prefix bytes = do
  opened ← after_literal (codes "(") bytes
  seconds ← number_before 1 12 (codes ".") opened
  micros ← number_before 6 6 (codes ")") seconds.1
  Some (seconds.0 * 1000000 + micros.0, micros.1)

-- the text after the blanks at its front, and after the word there, where there is one
unfoldable pub after_blanks : List ℕ → Option (List ℕ)
after_blanks bytes = if nat_le 1 (prefix_len is_blank bytes) then Some (drop (prefix_len is_blank bytes) bytes) else None

unfoldable pub after_word : List ℕ → Option (List ℕ)
after_word bytes =
    if nat_le 1 (prefix_len (is_in classes.NonBlank) bytes) then Some (drop (prefix_len (is_in classes.NonBlank) bytes) bytes) else None

-- whether nothing is here, or a blank first
abbrev pub is_tail : List ℕ → Bool
is_tail [] = true
is_tail (b ∷ bs) = is_blank b

-- the identifier of these digits
unfoldable pub key_of : List ℕ → Option Key
key_of digits =
    if length digits == 3
    then option_map (λ n. record { extended = false; id = n }) (number_up_to radixes.Hexadecimal standard_limit digits)
    else (if length digits == 8
    then option_map (λ n. record { extended = true; id = n }) (number_up_to radixes.Hexadecimal extended_limit digits)
    else None)

-- the identifier before the `#`
unfoldable pub key_prefix : List ℕ → Option (Key × List ℕ)
key_prefix bytes = do
  field ← field_before classes.HexadecimalDigit (codes "#") bytes
  key ← key_of field.0
  Some (key, field.1)

-- the text after a dot, where one is here
abbrev pub after_dot : List ℕ → List ℕ
after_dot [] = []
after_dot (b ∷ bs) = if b == dot then bs else b ∷ bs

-- the byte at the front, before which a dot may be where it is not the first
unfoldable pub next_byte : Bool → List ℕ → Option (ℕ × List ℕ)
next_byte first bytes = hexadecimal_byte (if first then bytes else after_dot bytes)

-- the bytes at the front, `limit` of them at most
abbrev pub bytes_then : (List ℕ → List ℕ × List ℕ) → List ℕ → Option (ℕ × List ℕ) → List ℕ × List ℕ
bytes_then more text None = ([], text)
bytes_then more text (Some next) = (next.0 ∷ (more next.1).0, (more next.1).1)

unfoldable pub bytes_prefix : ℕ → Bool → List ℕ → List ℕ × List ℕ
bytes_prefix zero first text = ([], text)
bytes_prefix (suc limit) first text = bytes_then (bytes_prefix limit false) text (next_byte first text)

-- the text after a length digit, and after a length code, where one is here
abbrev pub after_length : List ℕ → List ℕ
after_length [] = []
after_length (b ∷ bs) = if nat_le digit_zero b && nat_le b digit_eight then bs else b ∷ bs

abbrev pub after_code : List ℕ → List ℕ
after_code [] = []
after_code (b ∷ []) = b ∷ []
after_code (b ∷ digit ∷ bs) = if b == underscore && is_ascii_hexdigit digit then bs else b ∷ digit ∷ bs

-- what is behind the first `#`
abbrev pub fd_prefix : List ℕ → Option (Option (List ℕ) × List ℕ)
fd_prefix [] = None
fd_prefix (flags ∷ bs) =
    if is_ascii_hexdigit flags
    then Some (Some (bytes_prefix data_limit true bs).0, (bytes_prefix data_limit true bs).1)
    else None

abbrev pub classic_prefix : List ℕ → Option (Option (List ℕ) × List ℕ)
classic_prefix text =
    Some (Some (bytes_prefix classic_limit true text).0, after_code (bytes_prefix classic_limit true text).1)

unfoldable pub body_prefix : List ℕ → Option (Option (List ℕ) × List ℕ)
body_prefix [] = classic_prefix []
body_prefix (b ∷ bs) =
    if b == hash then fd_prefix bs
    else (if b == capital_r || b == small_r then Some (None, after_code (after_length bs)) else classic_prefix (b ∷ bs))

-- the interface's place and the line, where the text is no bad line
unfoldable pub parts_of : List ℕ → Option (Span × LogLine)
parts_of text = do
  micros ← stamp_prefix text
  word ← after_blanks micros.1
  behind ← after_word word
  field ← after_blanks behind
  key ← key_prefix field
  body ← body_prefix key.1
  (if is_tail body.1
      then Some (record { at = length text - length word; end = length text - length behind }, line_from micros.0 key.0 body.0)
      else None)

unfoldable pub read_line : List ℕ → Option (Span × LogLine)
read_line text = if nat_le (length text) line_limit then parts_of text else None

-- what a text says as a line of a log
abbrev pub line_or_bad : Option (Span × LogLine) → LogLine
line_or_bad None = line.Bad
line_or_bad (Some parts) = parts.1

unfoldable pub line_of : List ℕ → LogLine
line_of text = line_or_bad (read_line text)

-- where its interface is, none of a bad line
unfoldable pub interface_of : List ℕ → Option Span
interface_of text = option_map (λ parts. parts.0) (read_line text)
