-- The images of the tests are those of one bench, with any words behind it.
use Rattle.std.proofs.Common.{ℕ, List, [], ◌∷◌, refl, arith}
use Rattle.std.proofs.lemmas.List.Elements.{All-nil, All-cons}
use Rattle.std.proofs.lemmas.List.Sorted.{IsPermutation-refl, IsNonDecreasingBy-short}
use Rattle.bench_model.specs.declared.database.Kind.TheVariants.{Can}
use Rattle.bench_model.specs.declared.database.Bus.{Bus}
use Rattle.bench_model.specs.declared.database.Bench.{Bench}
use Rattle.bench_model.specs.Limits.{IsMade}
use Rattle.bench_model.specs.Check.{IsValid, faults_by}
use Rattle.bench_model.specs.ValidBench.{IsValidBus, IsValidBench}
use Rattle.image_words.specs.Layout.{EachRow, bytes_from, HasText}
use Rattle.image_words.specs.Index.{key_entries, HasIndex}
use Rattle.image_words.specs.Image.{HasBus, Encodes}
use Rattle.region_store.specs.Images.{IsLike, IsImage}

abbrev pub image : List ℕ → List ℕ
image rest = 10 ∷ 1 ∷ 0 ∷ 589825 ∷ 0 ∷ 0 ∷ 0 ∷ 0 ∷ 0 ∷ 65 ∷ rest

abbrev bus : Bus
bus = record { kind = Can; name = 65 ∷ []; database = record { messages = [] } }

abbrev bench : Bench
bench = record { buses = bus ∷ [] }

module _ (rest : List ℕ) where
  bus_name : HasText (image rest) 589825 (65 ∷ [])
  unfolding bytes_from
  bus_name = record { size = refl; within = λ h. omega arith; empty = λ e. absurd (omega (arith, e)); content = refl }

  no_index : HasIndex (image rest) [] 0 0
  no_index = record {
    within = λ h. absurd (omega (arith, h));
    index = record { ascending = IsNonDecreasingBy-short (λ (x : ℕ). x) [] (omega arith); same = IsPermutation-refl [] };
  }

  bus_row : HasBus (image rest) 2 bus
  unfolding EachRow key_entries
  bus_row = record {
    within = omega arith;
    number = omega arith;
    kind = refl;
    name = bus_name;
    messages = record { size = refl; each = tt };
    keys = no_index;
    groups = no_index;
  }

  encodes : Encodes (image rest) bench
  unfolding EachRow
  encodes = record { header = omega arith; whole = omega arith; buses = record { size = refl; each = (bus_row, tt) } }

valid : IsValid (record { messages = [] })
unfolding faults_by
valid = record { made = All-nil IsMade; faultless = refl }

bench_valid : IsValidBench bench
bench_valid = record {
  some_buses = omega arith;
  buses = omega arith;
  names = λ i j d less within. absurd (omega (arith, less, within));
  valid = All-cons IsValidBus bus [] (record { some_bytes = omega arith; bytes = omega arith; database = valid }) (All-nil IsValidBus);
}

pub is_image : (rest : List ℕ) → IsImage (image rest)
is_image rest = record { bench = bench; encodes = encodes rest; valid = bench_valid }

pub is_like : (a b : List ℕ) → IsLike (image a) (image b)
is_like a b = record {
  before = bench;
  bench = bench;
  first_encodes = encodes a;
  encodes = encodes b;
  valid = bench_valid;
  names = refl;
}
