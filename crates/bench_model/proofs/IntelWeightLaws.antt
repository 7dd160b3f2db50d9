-- A little-endian signal's bits are at its start and upwards, and its number is the sum of their weights.
use Rattle.std.proofs.Common.{◌≡◌, ◌∙◌, ap, ℕ, zero, suc, ◌+◌, ◌-◌, List, [], ◌∷◌, ◌++◌, map, refl, arith}
use Rattle.std.specs.Prelude.{reverse}
use Rattle.std.proofs.lemmas.List.{reverse-append}
use Rattle.bench_model.specs.declared.database.Order.TheVariants.{Intel}
use Rattle.bench_model.specs.Raw.{bit, places_from, places, weight}
use Rattle.bench_model.specs.Weights.{intel_sum, upwards}
use Rattle.bench_model.proofs.PlaceLaws.{length-bits}

from_first : (bytes : List ℕ) (start n : ℕ) → weight (map (bit bytes) (places_from Intel (start + n - 1) n)) ≡ intel_sum bytes start n
unfolding places_from intel_sum
from_first bytes start zero = refl
from_first bytes start (suc n) =
    let first : start + suc n - 1 ≡ start + n = omega arith in
    rw first (
    rw (length-bits bytes Intel (start + n - 1) n) (
    let rest = from_first bytes start n in omega (arith, rest)))

pub intel_weights : (bytes : List ℕ) (start n : ℕ) → weight (map (bit bytes) (places Intel start n)) ≡ intel_sum bytes start n
intel_weights bytes start n = from_first bytes start n

turned : (start n : ℕ) → reverse (places_from Intel (start + n - 1) n) ≡ upwards start n
unfolding places_from upwards
turned start zero = refl
turned start (suc n) =
    let first : start + suc n - 1 ≡ start + n = omega arith in
    rw first (
    reverse-append ((start + n) ∷ []) (places_from Intel (start + n - 1) n) ∙ ap (λ (ps : List ℕ). ps ++ (start + n) ∷ []) (turned start n))

pub intel_places : (start n : ℕ) → reverse (places Intel start n) ≡ upwards start n
intel_places start n = turned start n
