-- The comment and the white space at the front of a text.
use Rattle.std.specs.Prelude.{◌≡◌, ℕ, ◌<◌, ◌≤◌, ◌⊎◌, Bool, List, length, take, slice_index, IsTrue}
use Rattle.sig_text.specs.Bytes.{line_feed, star, slash}
use Rattle.sig_text.specs.Blank.{IsSpace, IsByteOrderMark, IsLineComment, IsBlockComment}
use Rattle.sig_text.specs.declared.blank.Comment.{Comment}
use Rattle.sig_text.specs.declared.blank.Comment.TheVariants.{Absent, Closed, Open}

-- the first n bytes are a line comment, up to a line feed or the end
pub record BeginsLineComment (text : List ℕ) (n : ℕ) : Type 0 where
  pub within : n ≤ length text
  pub lexeme : IsLineComment (take n text)
  pub ended : n < length text → slice_index text n ≡ line_feed

-- the first n bytes are a comment between `/*` and `*/`
pub record BeginsBlockComment (text : List ℕ) (n : ℕ) : Type 0 where
  pub within : n ≤ length text
  pub lexeme : IsBlockComment (take n text)

-- a `/*` begins the text
pub record OpensBlockComment (text : List ℕ) : Type 0 where
  pub opening_slash : slice_index text 0 ≡ slash
  pub opening_star : slice_index text 1 ≡ star

-- a `//` begins the text
pub record OpensLineComment (text : List ℕ) : Type 0 where
  pub first_slash : slice_index text 0 ≡ slash
  pub second_slash : slice_index text 1 ≡ slash

-- a `/*` begins the text, and no `*/` ends the comment
pub record BeginsOpenComment (text : List ℕ) : Type 0 where
  pub opened : OpensBlockComment text
  pub endless : (n : ℕ) → n ≤ length text → ¬ IsBlockComment (take n text)

-- what the text begins with, as the comment says
abbrev pub BeginsComment : List ℕ → Comment → Type 0
BeginsComment text Absent = (¬ OpensLineComment text) × (¬ OpensBlockComment text)
BeginsComment text (Closed len) = BeginsLineComment text len ⊎ BeginsBlockComment text len
BeginsComment text Open = BeginsOpenComment text

-- The first n bytes are white space, or, at the head of the whole text, the byte order mark; n is 0 where
-- neither is there.
pub record BeginsSpace (text : List ℕ) (is_head : Bool) (n : ℕ) : Type 0 where
  pub within : n ≤ length text
  pub lexeme : 0 < n → IsSpace (take n text) ⊎ (IsTrue is_head × IsByteOrderMark (take n text))
  pub no_space : n ≡ 0 → (m : ℕ) → ¬ IsSpace (take m text)
  pub no_mark : n ≡ 0 → IsTrue is_head → (m : ℕ) → ¬ IsByteOrderMark (take m text)
