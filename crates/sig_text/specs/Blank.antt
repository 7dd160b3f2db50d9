-- What is between tokens: white space, the byte order mark at the head of the text, and comments.
use Rattle.std.specs.Prelude.{◌≡◌, ◌≢◌, ℕ, ◌+◌, ◌-◌, ◌<◌, ◌≤◌, Bool, List, [], ◌∷◌, length, slice_index, slice_range, IsTrue, All}
use Rattle.sig_text.specs.Bytes.{line_feed, star, slash, is_space}

-- one byte of white space
abbrev pub IsSpace : List ℕ → Type 0
IsSpace text = (b : ℕ) × (text ≡ b ∷ []) × IsTrue (is_space b)

-- the byte order mark U+FEFF in UTF-8
abbrev pub IsByteOrderMark : List ℕ → Type 0
IsByteOrderMark text = text ≡ 0xEF ∷ 0xBB ∷ 0xBF ∷ []

-- `//`, and no line feed
pub record IsLineComment (text : List ℕ) : Type 0 where
  pub long : 2 ≤ length text
  pub first_slash : slice_index text 0 ≡ slash
  pub second_slash : slice_index text 1 ≡ slash
  pub one_line : All (λ b. b ≢ line_feed) text

-- `*/` is at this place, behind the `/*` that begins the text
pub record ClosesComment (text : List ℕ) (place : ℕ) : Type 0 where
  pub inside : 2 ≤ place
  pub closing_star : slice_index text place ≡ star
  pub closing_slash : slice_index text (place + 1) ≡ slash

-- `/*`, and all up to the first `*/` behind it
pub record IsBlockComment (text : List ℕ) : Type 0 where
  pub opening_slash : slice_index text 0 ≡ slash
  pub opening_star : slice_index text 1 ≡ star
  pub closed : ClosesComment text (length text - 2)
  pub first : (place : ℕ) → place + 2 < length text → ¬ ClosesComment text place

-- the ways in which the text from one place to another is one blank
pub data IsBlankText (text : List ℕ) (comments : Bool) (from to : ℕ) : Type 0 where
  space : IsSpace (slice_range text from to) → IsBlankText text comments from to
  byte_order_mark : from ≡ 0 → IsByteOrderMark (slice_range text from to) → IsBlankText text comments from to
  -- up to a line feed or the end
  line_comment : IsTrue comments → IsLineComment (slice_range text from to) →
      (to < length text → slice_index text to ≡ line_feed) → IsBlankText text comments from to
  block_comment : IsTrue comments → IsBlockComment (slice_range text from to) → IsBlankText text comments from to

-- a blank reaches from one place to another
pub record IsBlank (text : List ℕ) (comments : Bool) (from to : ℕ) : Type 0 where
  pub ordered : from < to
  pub within : to ≤ length text
  pub lexeme : IsBlankText text comments from to
