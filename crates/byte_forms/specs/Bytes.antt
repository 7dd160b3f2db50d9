-- The bytes of text that have a part of their own, here and in the crates above.
use Rattle.std.specs.Prelude.{ℕ}

abbrev pub tab : ℕ
tab = 9

abbrev pub line_feed : ℕ
line_feed = 10

abbrev pub carriage_return : ℕ
carriage_return = 13

abbrev pub space : ℕ
space = 32

-- `#`
abbrev pub hash : ℕ
hash = 35

-- `-`
abbrev pub hyphen : ℕ
hyphen = 45

-- `.`
abbrev pub dot : ℕ
dot = 46

-- the digit `0`; the digit `d` is the byte `d` above it
abbrev pub digit_zero : ℕ
digit_zero = 48

-- `A`
abbrev pub capital_a : ℕ
capital_a = 65

-- `_`
abbrev pub underscore : ℕ
underscore = 95
