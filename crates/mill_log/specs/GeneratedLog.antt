-- The log that is made for `mill`, which is this project's own: frames of numbers that follow one another by a linear
-- congruential generator modulo 2^64 (Knuth, MMIX).
use Rattle.std.specs.Prelude.{ℕ, zero, suc, ◌+◌, ◌*◌, ◌/◌, ◌%◌, ◌^◌, List, [], ◌∷◌, ◌++◌, codes}
use Rattle.std.specs.List.{flat_map, range_with_len}
use Rattle.exact_scale.specs.Digits.{last_digits}
use Rattle.byte_forms.specs.Hexadecimal.{hex_digits}

-- the number after another, and the number at a place behind the seed
abbrev pub number_after : ℕ → ℕ
number_after x = (x * 6364136223846793005 + 1442695040888963407) % 2 ^ 64

unfoldable pub number_at : ℕ → ℕ → ℕ
number_at seed zero = seed
number_at seed (suc i) = number_after (number_at seed i)

-- the number that frame i is made of
abbrev pub frame_number : ℕ → ℕ → ℕ
frame_number seed i = number_at seed (suc i)

-- the identifier of its message, by the number's highest six bits
abbrev pub first_id : ℕ
first_id = 256

abbrev pub identifier_of : ℕ → ℕ
identifier_of x = first_id + x / 2 ^ 58

-- so many bytes of a number, the lowest first
abbrev pub low_bytes : ℕ → ℕ → List ℕ
low_bytes zero x = []
low_bytes (suc n) x = x % 256 ∷ low_bytes n (x / 256)

-- a frame every 100 microseconds
abbrev pub stamp_of : ℕ → ℕ
stamp_of i = i * 100

-- a number's last digits, as many as there are places
unfoldable pub padded : ℕ → ℕ → List ℕ
padded places n = last_digits places n

-- `(0000000000.000000) can0 ` and `11B#7C00FD43AC6F576C`
abbrev pub line_prefix : ℕ → List ℕ
line_prefix i =
    codes "(" ++ (padded 10 (stamp_of i / 1000000) ++ (codes "." ++ (padded 6 (stamp_of i % 1000000) ++ codes ") can0 ")))

abbrev pub line_body : ℕ → List ℕ
line_body x = hex_digits 3 (identifier_of x) ++ (codes "#" ++ (flat_map (hex_digits 2) (low_bytes 8 x) ++ codes "\n"))

unfoldable pub line_of_frame : ℕ → ℕ → List ℕ
line_of_frame i x = line_prefix i ++ line_body x

-- the lines of so many frames from one on, and the whole log, whose seed is the number of its frames
unfoldable pub log_from : ℕ → ℕ → ℕ → List ℕ
log_from seed first n = flat_map (λ i. line_of_frame i (frame_number seed i)) (range_with_len first n)

abbrev pub generated_log : ℕ → List ℕ
generated_log n = log_from n 0 n
