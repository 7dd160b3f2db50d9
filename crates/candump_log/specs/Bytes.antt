-- The bytes of a frame that have a part of their own, beside those of byte_forms.
use Rattle.std.specs.Prelude.{ℕ}

-- the greatest length of a remote frame
abbrev pub digit_eight : ℕ
digit_eight = 56

-- the two letters of a remote frame, `R` and `r`
abbrev pub capital_r : ℕ
capital_r = 82

abbrev pub small_r : ℕ
small_r = 114
