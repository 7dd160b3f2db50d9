-- The raw value of a signal by a shift and a mask of whole bytes, as decoders compute it: bit 8 * b + i in
-- the numbering of the DBC and LDF formats, bit i of byte b, is that bit of the bytes as one little-endian
-- number.
use Rattle.std.specs.Prelude.{ℕ, ◌+◌, ◌-◌, ◌*◌, ◌/◌, ◌%◌, ◌^◌, ◌<◌, ◌&&◌, ℤ, pos, ◌-ℤ◌, Bool, List, [], ◌∷◌, length, reverse, slice_index, Option, Some, None, nat_le, if◌then◌else◌}
use Rattle.bench_model.specs.declared.database.Order.{Order}
use Rattle.bench_model.specs.declared.database.Order.TheVariants.{Intel, Motorola}
use Rattle.bench_model.specs.declared.database.Signal.{Signal}
use Rattle.bench_model.specs.Weights.{as_read}

-- each of these numbers is a byte
abbrev pub AreBytes : List ℕ → Type 0
AreBytes bytes = (i : ℕ) → slice_index bytes i < 256

-- the bytes as one number, the first byte the lowest
unfoldable pub little_endian : List ℕ → ℕ
little_endian [] = 0
little_endian (b ∷ bytes) = b + 256 * little_endian bytes

-- the bytes as one number, the last byte the lowest
abbrev pub big_endian : List ℕ → ℕ
big_endian bytes = little_endian (reverse bytes)

-- the place after a signal's last bit, where in Motorola order the bits of each byte are counted from the
-- most significant one
abbrev pub end_of : Order → ℕ → ℕ → ℕ
end_of Intel start size = start + size
end_of Motorola start size = as_read start + size

-- a signal's bits: the number of the bytes shifted right by what is below them, and so many bits of that;
-- as 0|16 in Intel order of A0 0F is 4000, and 7|16 in Motorola order of 12 34 is 4660
abbrev pub shifted_bits : Order → ℕ → ℕ → List ℕ → ℕ
shifted_bits Intel start size bytes = little_endian bytes / 2 ^ start % 2 ^ size
shifted_bits Motorola start size bytes =
    big_endian bytes / 2 ^ (8 * length bytes - end_of Motorola start size) % 2 ^ size

-- the number of so many bits, signed or not: a signed one is two's complement, less 2 ^ size from half of it
-- on; as the twelve bits FFE are 4094, and -2 where they are signed
abbrev pub signed_number : Bool → ℕ → ℕ → ℤ
signed_number signed size bits =
    if signed && nat_le (2 ^ (size - 1)) bits then pos bits -ℤ pos (2 ^ size) else pos bits

-- the raw value by shift and mask, absent where the signal ends past the bytes
abbrev pub shifted_value : Signal → List ℕ → Option ℤ
shifted_value s bytes =
    if nat_le (end_of s.order s.start s.size) (8 * length bytes)
    then Some (signed_number s.signed s.size (shifted_bits s.order s.start s.size bytes))
    else None
