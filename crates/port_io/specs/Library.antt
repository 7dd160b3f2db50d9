-- A library of files: a finite map from names to bytes, as a list whose first entry of a name counts.
use Rattle.std.specs.Prelude.{◌≡◌, ℕ, List, [], ◌∷◌, Bool, false, if◌then◌else◌, Option, None, Some, is_some, IsSome}
use Rattle.std.specs.Option.{option_map}
use Rattle.std.specs.Str.{bytes_eq}
use Rattle.port_io.specs.Causes.{raised}

-- the bytes of the first file of that name
abbrev pub named : List (List ℕ × List ℕ) → List ℕ → Option (List ℕ)
named [] name = None
named (file ∷ files) name = if bytes_eq file.0 name then Some file.1 else named files name

-- the file of that name is there, where the files are known, and these are its bytes
abbrev pub OpensFile : Option (List (List ℕ × List ℕ)) → List ℕ → Option (List ℕ) → Type 0
OpensFile None name bytes = bytes ≡ None
OpensFile (Some files) name bytes = (named files name ≡ bytes) × IsSome bytes

-- a log that was just opened: its bytes left are the named file's, none were taken, no read has failed or said the end
pub record IsFreshLog (files : Option (List (List ℕ × List ℕ))) (name : List ℕ)
    (left taken : Option (List ℕ)) (read_faults : ℕ) (ended : Bool) : Type 0 where
  pub bytes : OpensFile files name left
  pub none_taken : taken ≡ option_map (λ _. []) left
  pub no_faults : read_faults ≡ 0
  pub not_ended : ended ≡ false

-- the number of calls for names that known files do not have, after a call for this name
abbrev pub strays_after : Option (List (List ℕ × List ℕ)) → List ℕ → ℕ → ℕ
strays_after None name strays = strays
strays_after (Some files) name strays = if is_some (named files name) then strays else raised strays
