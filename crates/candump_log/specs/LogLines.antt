-- The lines of a log: the parts of its bytes that end in a line feed, without it, and maybe a last one without.
-- `all_lines` of `byte_forms` are all of them; these are the parts that end in one.
use Rattle.std.specs.Prelude.{◌≡◌, ℕ, ◌==◌, false, List, [], ◌∷◌, ◌++◌, if◌then◌else◌}
use Rattle.std.specs.List.{flat_map}
use Rattle.byte_forms.specs.Bytes.{line_feed}

-- a byte before the first whole line; where there is none, it is in no whole line
abbrev pub onto_whole : ℕ → List (List ℕ) → List (List ℕ)
onto_whole b [] = []
onto_whole b (line ∷ lines) = (b ∷ line) ∷ lines

unfoldable pub whole_lines : List ℕ → List (List ℕ)
whole_lines [] = []
whole_lines (b ∷ bs) = if b == line_feed then [] ∷ whole_lines bs else onto_whole b (whole_lines bs)

-- there is no line feed among the bytes
abbrev pub NoFeed : List ℕ → Type 0
NoFeed [] = Unit {0}
NoFeed (b ∷ bs) = ((b == line_feed) ≡ false) × NoFeed bs

-- the lines again as bytes, each with its line feed
abbrev pub with_feeds : List (List ℕ) → List ℕ
with_feeds lines = flat_map (λ line. line ++ line_feed ∷ []) lines

-- what is after the last line feed, as a line where it is not empty
abbrev pub last_line : List ℕ → List (List ℕ)
last_line [] = []
last_line (b ∷ bs) = (b ∷ bs) ∷ []
