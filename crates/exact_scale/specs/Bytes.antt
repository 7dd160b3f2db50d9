-- The bytes of decimal texts that have a part of their own.
use Rattle.std.specs.Prelude.{ℕ}

abbrev pub plus_sign : ℕ
plus_sign = 43

abbrev pub minus_sign : ℕ
minus_sign = 45

abbrev pub decimal_point : ℕ
decimal_point = 46

-- the digit `0`; the digit `d` is the byte `d` above it
abbrev pub digit_zero : ℕ
digit_zero = 48

abbrev pub digit_nine : ℕ
digit_nine = 57

-- the two marks of an exponent, `e` and `E`
abbrev pub small_e : ℕ
small_e = 101

abbrev pub capital_e : ℕ
capital_e = 69
