-- The words of a line: its parts between blanks. Blanks may be before the first word and after the last one, too.
use Rattle.std.specs.Prelude.{ℕ, ◌==◌, ◌||◌, Bool, true, false, not, List, [], ◌∷◌, filter, if◌then◌else◌}
use Rattle.byte_forms.specs.Bytes.{tab, space}
use Rattle.byte_forms.specs.Lines.{onto_first}

-- blanks are the space and the tab
abbrev pub is_blank : ℕ → Bool
is_blank b = b == space || b == tab

-- the parts of a line before, between and behind its blanks
unfoldable pub parts_of : List ℕ → List (List ℕ)
parts_of [] = [] ∷ []
parts_of (b ∷ bs) = if is_blank b then [] ∷ parts_of bs else onto_first b (parts_of bs)

abbrev pub is_empty : {A : Type 0} → List A → Bool
is_empty [] = true
is_empty (x ∷ xs) = false

-- its words: the parts that are not empty
abbrev pub words_of : List ℕ → List (List ℕ)
words_of line = filter (λ part. not (is_empty part)) (parts_of line)
