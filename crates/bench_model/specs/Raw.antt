-- The raw value of a signal, by the bit numbering of the DBC and LDF formats: bit 8 * b + i is bit i of
-- byte b, and bit 0 of a byte is its least significant one.
use Rattle.std.specs.Prelude.{ℕ, zero, suc, ◌+◌, ◌-◌, ◌*◌, ◌/◌, ◌%◌, ◌^◌, ◌==◌, ◌&&◌, ℤ, pos, ◌-ℤ◌, Bool, List, [], ◌∷◌, length, map, slice_index, Option, Some, None, nat_lt, if◌then◌else◌}
use Rattle.std.specs.List.{list_all}
use Rattle.bench_model.specs.declared.database.Order.{Order}
use Rattle.bench_model.specs.declared.database.Order.TheVariants.{Intel, Motorola}
use Rattle.bench_model.specs.declared.database.Signal.{Signal}

-- bit p of the bytes
abbrev pub bit : List ℕ → ℕ → ℕ
bit bytes p = (slice_index bytes (p / 8) / 2 ^ (p % 8)) % 2

-- the place of the most significant bit: in Intel order the least significant bit is at start and
-- the later ones at start + 1, start + 2 and so on; in Motorola order the most significant one is at start
abbrev pub first_place : Order → ℕ → ℕ → ℕ
first_place Intel start size = start + size - 1
first_place Motorola start size = start

-- the place of the next less significant bit: in Motorola order it is the next one down in the byte,
-- and below a byte's lowest bit the highest one of the byte after it
abbrev pub next_place : Order → ℕ → ℕ
next_place Intel p = p - 1
next_place Motorola p = if p % 8 == 0 then p + 15 else p - 1

-- so many places from p on, each less significant than the one before
unfoldable pub places_from : Order → ℕ → ℕ → List ℕ
places_from order p zero = []
places_from order p (suc n) = p ∷ places_from order (next_place order p) n

-- the places of a signal's bits, the most significant one first
abbrev pub places : Order → ℕ → ℕ → List ℕ
places order start size = places_from order (first_place order start size) size

-- the sum of the weights of the set bits: the last one weighs 1, and each other one twice the next
abbrev pub weight : List ℕ → ℕ
weight [] = 0
weight (b ∷ bits) = b * 2 ^ length bits + weight bits

-- whether none of these places lies past the bytes
abbrev pub is_within : List ℕ → List ℕ → Bool
is_within bytes ps = list_all (λ p. nat_lt (p / 8) (length bytes)) ps

-- the signed or unsigned number of these bits: a signed one is two's complement
abbrev pub number_of : Bool → ℕ → ℕ → ℕ → ℤ
number_of signed size top n = if signed && (top == 1) then pos n -ℤ pos (2 ^ size) else pos n

-- the raw value of a signal, absent where one of its bits lies past the bytes
unfoldable pub raw_value : Signal → List ℕ → Option ℤ
raw_value s bytes =
    if is_within bytes (places s.order s.start s.size)
    then Some (number_of s.signed s.size (bit bytes (first_place s.order s.start s.size))
    (weight (map (bit bytes) (places s.order s.start s.size))))
    else None
