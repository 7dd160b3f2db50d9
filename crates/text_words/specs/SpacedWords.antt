-- Words as they are written: parted by single blanks.
use Rattle.std.specs.Prelude.{ℕ, List, [], ◌∷◌, ◌++◌, flat_map}
use Rattle.byte_forms.specs.Bytes.{space}

-- a word behind a blank
abbrev pub behind_blank : List ℕ → List ℕ
behind_blank word = space ∷ word

-- words: the first, and each other one behind a blank
abbrev pub text_of_words : List (List ℕ) → List ℕ
text_of_words [] = []
text_of_words (word ∷ words) = word ++ flat_map behind_blank words
