-- The layout of an image, a list of words of 64 bits, which is this project's own: its words, its rows and
-- its texts. All places are places of words, counted from the image's start.
use Rattle.std.specs.Prelude.{◌≡◌, ℕ, zero, suc, ◌+◌, ◌-◌, ◌*◌, ◌/◌, ◌%◌, ◌<◌, ◌≤◌, List, [], ◌∷◌, ◌++◌, length, replicate, slice_index, Option, Some, None}
use Rattle.std.specs.Int.{w64, to_le_bytes}

-- the word at a place
abbrev pub word : List ℕ → ℕ → ℕ
word image at = slice_index image at

-- the length of the image, in its first word; words from there on are passed over
abbrev pub image_length : List ℕ → ℕ
image_length image = word image 0

-- bytes of a word, and words of each kind of row
abbrev pub word_bytes : ℕ
word_bytes = 8

abbrev pub header_words : ℕ
header_words = 2

abbrev pub bus_words : ℕ
bus_words = 7

abbrev pub message_words : ℕ
message_words = 5

abbrev pub signal_words : ℕ
signal_words = 12

abbrev pub range_words : ℕ
range_words = 2

abbrev pub label_words : ℕ
label_words = 3

abbrev pub entry_words : ℕ
entry_words = 7

-- rows one after another from a place on, each so many words after the one before
unfoldable pub EachRow : {X : Type 0} → (ℕ → X → Type 0) → ℕ → ℕ → List X → Type 0
EachRow Has stride at [] = Unit {0}
EachRow Has stride at (x ∷ xs) = Has at x × EachRow Has stride (at + stride) xs

-- so many rows
pub record HasRows {X : Type 0} (Has : ℕ → X → Type 0) (stride at count : ℕ) (rows : List X) : Type 0 where
  pub size : length rows ≡ count
  pub each : EachRow Has stride at rows

-- the bytes of n words from a place on, the lowest byte of each word first
unfoldable pub bytes_from : List ℕ → ℕ → ℕ → List ℕ
bytes_from image at zero = []
bytes_from image at (suc n) = bytes_from image at n ++ to_le_bytes w64 (word image (at + n))

-- how many words so many bytes take
abbrev pub words_for : ℕ → ℕ
words_for n = (n + 7) / word_bytes

-- bytes with zeros up to the end of their last word
abbrev pub padded : List ℕ → List ℕ
padded bytes = bytes ++ replicate (word_bytes * words_for (length bytes) - length bytes) 0

-- a reference to a text is its place * 65,536 + its length in bytes
abbrev pub length_span : ℕ
length_span = 65536

-- the text of a reference lies within the image; one of no bytes takes no word and has any place behind the
-- header, so that no reference to a text is 0
pub record HasText (image : List ℕ) (reference : ℕ) (text : List ℕ) : Type 0 where
  pub size : length text ≡ reference % length_span
  pub within : 1 ≤ length text → reference / length_span + words_for (length text) ≤ image_length image
  pub empty : length text ≡ 0 → header_words ≤ reference / length_span
  pub content : bytes_from image (reference / length_span) (words_for (length text)) ≡ padded text

-- the same of a text that may be missing: reference 0 is no text
abbrev pub HasOptionalText : List ℕ → ℕ → Option (List ℕ) → Type 0
HasOptionalText image reference None = reference ≡ 0
HasOptionalText image reference (Some text) = HasText image reference text

-- so many words from a place on are 0
abbrev pub AreZeros : List ℕ → ℕ → ℕ → Type 0
AreZeros image at n = (i : ℕ) → i < n → word image (at + i) ≡ 0
