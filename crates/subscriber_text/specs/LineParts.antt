-- Words in the midst of a line, each behind a blank, as the code appends them.
use Rattle.std.specs.Prelude.{ℕ, List, [], ◌∷◌, flat_map, Option}
use Rattle.std.specs.Fmt.{decimal}
use Rattle.bench_model.specs.declared.reading.Missed.{Missed}
use Rattle.text_words.specs.SpacedWords.{behind_blank}
use Rattle.subscriber_text.specs.ItemText.{label_words, stamps_of}

-- the label of a signal, where it has one
abbrev pub label_text : Option (List ℕ) → List ℕ
label_text label = flat_map behind_blank (label_words label)

-- a parameter group number, a source address and a destination address
abbrev pub group_text : ℕ → ℕ → ℕ → List ℕ
group_text pgn sa da = flat_map behind_blank (decimal pgn ∷ decimal sa ∷ decimal da ∷ [])

-- the stamps and the versions of a gap
abbrev pub stamps_text : Missed → List ℕ
stamps_text m = flat_map behind_blank (stamps_of m)
