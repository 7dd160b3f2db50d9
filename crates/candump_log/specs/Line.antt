-- A line of a log in the format of candump (can-utils, `lib.h`): `(SECONDS.MICROS) INTERFACE FRAME`, blanks between them
-- and maybe further words behind them.
use Rattle.std.specs.Prelude.{◌≡◌, ◌⊎◌, ℕ, ◌+◌, ◌*◌, ◌^◌, ◌<◌, ◌≤◌, ◌==◌, ◌||◌, Bool, true, false, List, [], ◌∷◌, ◌++◌, length, codes, Option, Some, None, nat_le, if◌then◌else◌}
use Rattle.std.specs.List.{list_all}
use Rattle.std.specs.Char.{is_ascii_hexdigit}
use Rattle.byte_forms.specs.Bytes.{tab, carriage_return, space, digit_zero}
use Rattle.byte_forms.specs.declared.class.Class.TheVariants as classes
use Rattle.byte_forms.specs.declared.numerals.Radix.TheVariants as radixes
use Rattle.byte_forms.specs.Classes.{is_in}
use Rattle.byte_forms.specs.Numerals.{is_numeral, number_of}
use Rattle.bench_model.specs.declared.database.Key.{Key}
use Rattle.candump_log.specs.declared.log_line.LogLine.{LogLine}
use Rattle.candump_log.specs.declared.log_line.LogLine.TheVariants as line
use Rattle.candump_log.specs.declared.log_line.Span.{Span}
use Rattle.candump_log.specs.Bytes.{digit_eight, capital_r, small_r}
use Rattle.candump_log.specs.Data.{classic_limit, data_limit, EncodesData}

-- the most bytes of a line, its blanks at the end counted and its line feed not
abbrev pub line_limit : ℕ
line_limit = 512

-- the greatest identifier of 3 digits, and that of 8
abbrev pub standard_limit : ℕ
standard_limit = 0x7ff

abbrev pub extended_limit : ℕ
extended_limit = 0x3fff_ffff

-- a blank of a log: the space, the tab or the carriage return
abbrev pub is_blank : ℕ → Bool
is_blank b = b == space || (b == tab || b == carriage_return)

abbrev pub AreBlanks : List ℕ → Type 0
AreBlanks text = (1 ≤ length text) × (list_all is_blank text ≡ true)

-- one byte or more, none a blank
abbrev pub IsWord : List ℕ → Type 0
IsWord text = (1 ≤ length text) × (list_all (is_in classes.NonBlank) text ≡ true)

-- nothing, or what a blank begins: blanks at the end of the line, or further words behind one
abbrev pub IsTail : List ℕ → Type 0
IsTail [] = Unit {0}
IsTail (b ∷ bs) = is_blank b ≡ true

-- decimal digits, as many as this at least and at most
abbrev pub AreDigits : ℕ → ℕ → List ℕ → Type 0
AreDigits least most text = (is_numeral radixes.Decimal text ≡ true) × (least ≤ length text) × (length text ≤ most)

-- the pieces of a line between its signs
pub record LinePieces : Type 0 where
  pub seconds : List ℕ
  pub micros : List ℕ
  pub gap : List ℕ
  pub interface : List ℕ
  pub space : List ℕ
  pub id : List ℕ
  pub body : List ℕ
  pub tail : List ℕ

-- what is before the interface, and what behind it
abbrev pub prefix_text : LinePieces → List ℕ
prefix_text p = codes "(" ++ (p.seconds ++ (codes "." ++ (p.micros ++ (codes ")" ++ p.gap))))

abbrev pub behind_text : LinePieces → List ℕ
behind_text p = p.space ++ (p.id ++ (codes "#" ++ (p.body ++ p.tail)))

-- microseconds since the log's epoch
abbrev pub stamp : LinePieces → ℕ
stamp p = number_of radixes.Decimal p.seconds * 1000000 + number_of radixes.Decimal p.micros

-- 3 hexadecimal digits are an 11-bit identifier, 8 are a 29-bit one, or that of an error frame, which has bit 29
pub record IsIdentifier (digits : List ℕ) (key : Key) : Type 0 where
  pub numeral : is_numeral radixes.Hexadecimal digits ≡ true
  pub id : key.id ≡ number_of radixes.Hexadecimal digits
  pub form : ((length digits ≡ 3) × (key.extended ≡ false) × (key.id ≤ standard_limit))
      ⊎ ((length digits ≡ 8) × (key.extended ≡ true) × (key.id ≤ extended_limit))

-- what may follow the data of a classic frame or the length of a remote one: `_` and a hexadecimal digit
abbrev pub IsLengthCode : List ℕ → Type 0
IsLengthCode text = (text ≡ []) ⊎ ((digit : ℕ) × (is_ascii_hexdigit digit ≡ true) × (text ≡ codes "_" ++ digit ∷ []))

-- a classic frame behind its first `#`: 0 to 8 bytes
pub record IsClassic (body bytes : List ℕ) : Type 0 where
  pub digits : List ℕ
  pub code : List ℕ
  pub text : body ≡ digits ++ code
  pub bytes_are : EncodesData digits bytes
  pub few : length bytes ≤ classic_limit
  pub code_is : IsLengthCode code

-- a CAN FD frame: a second `#`, a hexadecimal digit of flags, and 0 to 64 bytes
pub record IsFd (body bytes : List ℕ) : Type 0 where
  pub flags : ℕ
  pub digits : List ℕ
  pub text : body ≡ codes "#" ++ flags ∷ digits
  pub flags_are : is_ascii_hexdigit flags ≡ true
  pub bytes_are : EncodesData digits bytes
  pub few : length bytes ≤ data_limit

-- a digit 0 to 8, or none
abbrev pub IsLength : List ℕ → Type 0
IsLength text = (text ≡ []) ⊎ ((digit : ℕ) × (digit_zero ≤ digit) × (digit ≤ digit_eight) × (text ≡ digit ∷ []))

-- a remote frame: `R` or `r`, and maybe a length
pub record IsRemote (body : List ℕ) : Type 0 where
  pub letter : ℕ
  pub length_digit : List ℕ
  pub code : List ℕ
  pub text : body ≡ letter ∷ (length_digit ++ code)
  pub letter_is : (letter ≡ capital_r) ⊎ (letter ≡ small_r)
  pub length_is : IsLength length_digit
  pub code_is : IsLengthCode code

-- what is behind the first `#`: the bytes of a data frame, or a remote frame, which has none
abbrev pub IsBody : List ℕ → Option (List ℕ) → Type 0
IsBody body (Some bytes) = IsClassic body bytes ⊎ IsFd body bytes
IsBody body None = IsRemote body

abbrev pub frame_line : ℕ → Key → Option (List ℕ) → LogLine
frame_line micros key (Some bytes) = line.Frame micros key bytes
frame_line micros key None = line.Remote micros key

-- an identifier with bit 29 is an error frame's, whatever follows in the form
abbrev pub line_from : ℕ → Key → Option (List ℕ) → LogLine
line_from micros key content =
    if nat_le (2 ^ 29) key.id then line.Error micros key.id else frame_line micros key content

-- the text is a frame, remote or error line of these pieces
pub record Encodes (text : List ℕ) (p : LinePieces) (line : LogLine) : Type 0 where
  pub parted : text ≡ prefix_text p ++ (p.interface ++ behind_text p)
  pub short : length text ≤ line_limit
  pub seconds : AreDigits 1 12 p.seconds
  pub micros : AreDigits 6 6 p.micros
  pub gap : AreBlanks p.gap
  pub interface : IsWord p.interface
  pub space : AreBlanks p.space
  pub key : Key
  pub id : IsIdentifier p.id key
  pub content : Option (List ℕ)
  pub body : IsBody p.body content
  pub tail : IsTail p.tail
  pub line_is : line ≡ line_from (stamp p) key content

-- what a text says as a line of a log: a bad line is of no other form
abbrev pub IsLine : List ℕ → LogLine → Type 0
IsLine text line.Bad = (p : LinePieces) (l : LogLine) → Encodes text p l → ⊥
IsLine text l = (p : LinePieces) × Encodes text p l

-- where the interface is in a text that is no bad line
pub record IsInterface (text : List ℕ) (span : Span) : Type 0 where
  pub pieces : LinePieces
  pub line : LogLine
  pub encodes : Encodes text pieces line
  pub at : span.at ≡ length (prefix_text pieces)
  pub end : span.end ≡ span.at + length pieces.interface

-- what each line keeps: 11 bits or 29, an error frame's identifier with bit 29, and the bytes that a frame has room for
abbrev pub KeyFits : Key → Type 0
KeyFits key = (key.extended ≡ false → key.id < 2 ^ 11) × (key.id < 2 ^ 29)

abbrev pub KeepsLimits : LogLine → Type 0
KeepsLimits (line.Frame micros key bytes) = (micros < 10 ^ 18) × KeyFits key × (length bytes ≤ data_limit)
KeepsLimits (line.Remote micros key) = (micros < 10 ^ 18) × KeyFits key
KeepsLimits (line.Error micros id) = (micros < 10 ^ 18) × (2 ^ 29 ≤ id) × (id < 2 ^ 30)
KeepsLimits line.Bad = Unit {0}
