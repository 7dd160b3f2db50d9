-- Decimal digits as ASCII text, the highest first.
use Rattle.std.specs.Prelude.{ℕ, zero, suc, ◌+◌, ◌-◌, ◌*◌, ◌/◌, ◌%◌, ◌^◌, ◌≤◌, List, [], ◌∷◌, ◌++◌, length, map, if◌then◌else◌, ◌==◌}
use Rattle.std.specs.List.{AllByRecursion}
use Rattle.std.specs.Int.Digits.{digits_of}
use Rattle.exact_scale.specs.Bytes.{digit_zero, digit_nine}

-- a byte from `0` to `9`
abbrev pub IsDigit : ℕ → Type 0
IsDigit byte = (digit_zero ≤ byte) × (byte ≤ digit_nine)

-- digits and nothing else
abbrev pub AllDigits : List ℕ → Type 0
AllDigits bytes = AllByRecursion IsDigit bytes

-- the number that digits denote; no digits denote 0
abbrev pub number : List ℕ → ℕ
number [] = 0
number (digit ∷ digits) = (digit - digit_zero) * 10 ^ length digits + number digits

-- a number's digits without leading zeros, and `0` for 0, as std's `decimal` has them of numbers below 10^64
abbrev pub decimal_digits : ℕ → List ℕ
decimal_digits n = if n == 0 then (digit_zero ∷ []) else map (λ digit. digit_zero + digit) (digits_of 10 n)

-- a number's last digits, as many as there are places
abbrev pub last_digits : ℕ → ℕ → List ℕ
last_digits zero n = []
last_digits (suc places) n = last_digits places (n / 10) ++ (digit_zero + n % 10) ∷ []
