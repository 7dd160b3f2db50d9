-- Which images a store takes: each encodes a valid bench whose buses have the names and kinds of those of the
-- first image, in order.
use Rattle.std.specs.Prelude.{◌≡◌, ℕ, List, map}
use Rattle.bench_model.specs.declared.database.Kind.{Kind}
use Rattle.bench_model.specs.declared.database.Bus.{Bus}
use Rattle.bench_model.specs.declared.database.Bench.{Bench}
use Rattle.bench_model.specs.ValidBench.{IsValidBench}
use Rattle.image_words.specs.Image.{Encodes}

abbrev pub name_of : Bus → Kind × List ℕ
name_of bus = (bus.kind, bus.name)

abbrev pub names_of : Bench → List (Kind × List ℕ)
names_of bench = map name_of bench.buses

pub record IsLike (first image : List ℕ) : Type 0 where
  pub before : Bench
  pub bench : Bench
  pub first_encodes : Encodes first before
  pub encodes : Encodes image bench
  pub valid : IsValidBench bench
  pub names : names_of bench ≡ names_of before

-- an image of a valid bench
pub record IsImage (image : List ℕ) : Type 0 where
  pub bench : Bench
  pub encodes : Encodes image bench
  pub valid : IsValidBench bench
