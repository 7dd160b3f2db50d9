-- The command of a control connection: `LOAD`, and then the name of a bus and the name of the file of its new database, up to
-- sixteen times. The command is of this project's own format.
use Rattle.std.specs.Prelude.{◌≡◌, ◌≢◌, ℕ, ◌≤◌, true, List, [], ◌∷◌, length, codes, flat_map, AllPairs}
use Rattle.std.specs.List.{list_all}
use Rattle.text_words.specs.Words.{words_of}
use Rattle.bench_file.specs.LineMeaning.{is_file_name}
use Rattle.bench_loader.specs.declared.load_line.Pair.{Pair}

-- how many bytes a command may have
abbrev pub longest_command : ℕ
longest_command = 8192

-- how many buses a command may name
abbrev pub most_pairs : ℕ
most_pairs = 16

-- the words of pairs, one after another
abbrev pub pair_words : Pair → List (List ℕ)
pair_words p = p.bus ∷ p.file ∷ []

abbrev pub words_of_pairs : List Pair → List (List ℕ)
words_of_pairs pairs = flat_map pair_words pairs

-- at most sixteen pairs, each with the name of a file, and no bus twice
pub record KeepRules (pairs : List Pair) : Type 0 where
  pub few : length pairs ≤ most_pairs
  pub files : list_all (λ (p : Pair). is_file_name p.file) pairs ≡ true
  pub buses : AllPairs (λ (p q : Pair). p.bus ≢ q.bus) pairs

-- the line is a command that names these pairs
pub record IsLoad (line : List ℕ) (pairs : List Pair) : Type 0 where
  pub short : length line ≤ longest_command
  pub words : words_of line ≡ codes "LOAD" ∷ words_of_pairs pairs
  pub some : 1 ≤ length pairs
  pub rules : KeepRules pairs

-- a line of any other form
abbrev pub IsOtherForm : List ℕ → Type 0
IsOtherForm line = (pairs : List Pair) → IsLoad line pairs → ⊥
