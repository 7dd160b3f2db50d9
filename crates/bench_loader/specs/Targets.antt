-- Which buses a command names, by their places in the bench.
use Rattle.std.specs.Prelude.{◌≡◌, ℕ, List, Option, Some, None, map, position, slice_get}
use Rattle.std.specs.List.{AllZip}
use Rattle.std.specs.Str.{bytes_eq}
use Rattle.decisions.specs.ListDecisions.{FirstFails}
use Rattle.bench_model.specs.declared.database.Bus.{Bus}
use Rattle.bench_loader.specs.declared.load_line.Pair.{Pair}
use Rattle.bench_loader.specs.declared.targets.Target.{Target}
use Rattle.bench_loader.specs.LoadLine.{IsLoad}

-- the place of the bus of this name
abbrev pub place_of_bus : List Bus → List ℕ → Option ℕ
place_of_bus buses name = position (λ (bus : Bus). bytes_eq bus.name name) buses

-- the bus that a pair names: its place and its kind
pub record IsTarget (buses : List Bus) (pair : Pair) (target : Target) : Type 0 where
  pub bus : Bus
  pub place : place_of_bus buses pair.bus ≡ Some target.bus
  pub there : slice_get buses target.bus ≡ Some bus
  pub kind : target.kind ≡ bus.kind

-- no bus has the name that the pair gives
pub record IsUnknown (buses : List Bus) (pair : Pair) (name : List ℕ) : Type 0 where
  pub none : place_of_bus buses pair.bus ≡ None
  pub name_is : name ≡ pair.bus

-- the line is a command, and these are the buses that it names, pair by pair
pub record NamesBuses (buses : List Bus) (line : List ℕ) (pairs : List Pair) (targets : List Target) : Type 0 where
  pub load : IsLoad line pairs
  pub found : AllZip (IsTarget buses) pairs targets

-- the line is a command whose pair at this place is the first that names no bus
pub record NamesNoBus (buses : List Bus) (line : List ℕ) (place : ℕ) (name : List ℕ) : Type 0 where
  pub pairs : List Pair
  pub load : IsLoad line pairs
  pub first : FirstFails (IsTarget buses) (IsUnknown buses) pairs place name

-- the places of buses that a command names
abbrev pub places_of : List Target → List ℕ
places_of targets = map (λ (target : Target). target.bus) targets
