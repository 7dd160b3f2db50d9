-- What a library shows before and after calls, and which names it was asked for.
use Rattle.std.specs.Prelude.{◌≡◌, ℕ, ◌≤◌, List, [], ◌∷◌, ◌++◌, Option}
use Rattle.port_io.specs.Library.{strays_after}

-- the files of a library: names and bytes
abbrev pub Files : Type 0
Files = List (List ℕ × List ℕ)

-- the files where they are known, the two counts of faults, and how many calls named a file that is not there
pub record LibraryState : Type 0 where
  pub files : Option Files
  pub open_faults : ℕ
  pub more_faults : ℕ
  pub strays : ℕ

abbrev pub library_state : Option Files → ℕ → ℕ → ℕ → LibraryState
library_state files open_faults more_faults strays =
    record { files = files; open_faults = open_faults; more_faults = more_faults; strays = strays }

-- the number of stray calls after calls for these names
abbrev pub strays_over : Option Files → List (List ℕ) → ℕ → ℕ
strays_over files [] strays = strays
strays_over files (name ∷ names) strays = strays_over files names (strays_after files name strays)

-- What calls for these names leave: the files stay, no count of faults falls, and the strays are counted over the names
-- in order. Calls that succeed are not counted, so a second call for a name that is there is not seen.
pub record Asks (before : LibraryState) (names : List (List ℕ)) (now : LibraryState) : Type 0 where
  pub files : now.files ≡ before.files
  pub opens : before.open_faults ≤ now.open_faults
  pub reads : before.more_faults ≤ now.more_faults
  pub strays : now.strays ≡ strays_over before.files names before.strays

-- the same of the first of these names, maybe of all
pub record AsksFirst (before : LibraryState) (names : List (List ℕ)) (now : LibraryState) : Type 0 where
  pub asked : List (List ℕ)
  pub unasked : List (List ℕ)
  pub parted : asked ++ unasked ≡ names
  pub calls : Asks before asked now
