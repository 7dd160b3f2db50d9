-- Numbers in upper-case hexadecimal digits, as identifiers and bytes are written.
use Rattle.std.specs.Prelude.{ℕ, zero, suc, ◌+◌, ◌-◌, ◌/◌, ◌%◌, ◌++◌, List, [], ◌∷◌, nat_lt, if◌then◌else◌}
use Rattle.byte_forms.specs.Bytes.{digit_zero, capital_a}

-- an upper-case hexadecimal digit
abbrev pub hex_digit : ℕ → ℕ
hex_digit n = if nat_lt n 10 then digit_zero + n else (capital_a - 10) + n

-- the last so many hexadecimal digits of a number
unfoldable pub hex_digits : ℕ → ℕ → List ℕ
hex_digits zero n = []
hex_digits (suc k) n = hex_digits k (n / 16) ++ hex_digit (n % 16) ∷ []
