-- What is known where all words of a list are known, and where in it the rows are.
use Rattle.std.specs.Prelude.{ℕ, ◌+◌, ◌*◌, List, length, slice_get, slice_index}
use Rattle.image_words.specs.Layout.{word, header_words, bus_words, message_words, signal_words}
use Rattle.image_words.specs.Knowledge.{Knowledge}

-- the number of buses is the word 1, or 0 where there is none
abbrev pub all_of : List ℕ → Knowledge
all_of image = record { size = length image; buses = slice_index image 1; known = slice_get image }

-- the place of the row of a bus, of a message on it, and of a signal of the message
abbrev pub bus_place : ℕ → ℕ
bus_place bus = header_words + bus_words * bus

abbrev pub message_place : List ℕ → ℕ → ℕ → ℕ
message_place image bus message = word image (bus_place bus + 3) + message_words * message

abbrev pub signal_place : List ℕ → ℕ → ℕ → ℕ → ℕ
signal_place image bus message signal =
    word image (message_place image bus message + 4) + signal_words * signal
