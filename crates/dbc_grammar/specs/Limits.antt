-- The limits of the numbers of the DBC format.
use Rattle.std.specs.Prelude.{ℕ}

-- the greatest whole number of 32 bits
abbrev pub small_limit : ℕ
small_limit = 4294967295

-- the greatest identifier of 11 bits, and the least of 29 bits, in which bit 31 is set
abbrev pub last_short_id : ℕ
last_short_id = 2047

abbrev pub first_long_id : ℕ
first_long_id = 2147483648

-- how many identifiers of 29 bits there are
abbrev pub long_ids : ℕ
long_ids = 536870912

-- the greatest value of a range, which is of 64 bits
abbrev pub last_range_value : ℕ
last_range_value = 18446744073709551615

-- the greatest value type
abbrev pub last_type : ℕ
last_type = 2
