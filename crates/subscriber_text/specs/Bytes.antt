-- The bytes of item text that have a part of their own.
use Rattle.std.specs.Prelude.{ℕ}

-- `"`
abbrev pub quote : ℕ
quote = 34

abbrev pub backslash : ℕ
backslash = 92

-- the `x` of `\x1B`
abbrev pub small_x : ℕ
small_x = 120

-- the last control character; the others are below the space
abbrev pub delete : ℕ
delete = 127
