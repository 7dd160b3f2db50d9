-- The lines of a text: each ends before a line feed, the last one maybe at the end of the text.
use Rattle.std.specs.Prelude.{◌≡◌, ◌⊎◌, ℕ, ◌==◌, List, [], ◌∷◌, ◌++◌, if◌then◌else◌}
use Rattle.byte_forms.specs.Bytes.{line_feed}

-- a byte put before the first line; where there is none, it is a line of its own
abbrev pub onto_first : ℕ → List (List ℕ) → List (List ℕ)
onto_first b [] = (b ∷ []) ∷ []
onto_first b (line ∷ lines) = (b ∷ line) ∷ lines

-- the parts of a text that end in a line feed, without it, and what is after the last one where
-- that isn't empty
unfoldable pub all_lines : List ℕ → List (List ℕ)
all_lines [] = []
all_lines (b ∷ bs) = if b == line_feed then [] ∷ all_lines bs else onto_first b (all_lines bs)

-- a text is its first line and the rest, with a line feed between them or with nothing behind the line
abbrev pub IsCut : List ℕ → List ℕ → List ℕ → Type 0
IsCut bytes line rest = (bytes ≡ line ++ line_feed ∷ rest) ⊎ ((bytes ≡ line) × (rest ≡ []))
