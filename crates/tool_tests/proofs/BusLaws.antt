-- The benches of the tests are valid, and the loader of a store that was just made works on it.
use Rattle.std.proofs.Common.{◌≡◌, ◌≢◌, ℕ, zero, suc, ◌≤◌, List, [], ◌∷◌, length, refl, sym, ap, subst, arith}
use Rattle.std.specs.Prelude.{AllPairs}
use Rattle.std.proofs.lemmas.List.Elements.{All-nil, All-cons}
use Rattle.bench_model.specs.declared.database.Message.{Message}
use Rattle.bench_model.specs.declared.database.Database.{Database}
use Rattle.bench_model.specs.declared.database.Bus.{Bus}
use Rattle.bench_model.specs.declared.database.Bench.{Bench}
use Rattle.bench_model.specs.Limits.{IsMade}
use Rattle.bench_model.specs.Check.{IsValid, faults_by}
use Rattle.bench_model.specs.ValidBench.{IsValidBus, IsValidBench, longest_bus_name}
use Rattle.tool_tests.specs.EmptyBus.{IsEmptyBus}

none_valid : IsValid (record { messages = [] })
unfolding faults_by
none_valid = record { made = All-nil IsMade; faultless = refl }

pub empty_valid : (d : Database) → d.messages ≡ [] → IsValid d
empty_valid d e =
    let none : Database = record { messages = [] } in
    let same : d ≡ none = ap (λ (ms : List Message). let r : Database = record { messages = ms } in r) e in
    subst IsValid (sym same) none_valid

bus_valid : (name : List ℕ) (bus : Bus) → 1 ≤ length name → length name ≤ longest_bus_name → IsEmptyBus name bus → IsValidBus bus
bus_valid name bus some short e = record {
  some_bytes = omega (arith, ap length e.name_is);
  bytes = omega (arith, ap length e.name_is);
  database = empty_valid bus.database e.no_messages;
}

pub one_valid : (bench : Bench) (a : Bus) (x : ℕ) → bench.buses ≡ a ∷ [] → IsEmptyBus (x ∷ []) a → IsValidBench bench
one_valid bench a x is e =
    let made : Bench = record { buses = a ∷ [] } in
    let same : bench ≡ made = ap (λ (bs : List Bus). let r : Bench = record { buses = bs } in r) is in
    let valid : IsValidBench made = record {
      some_buses = omega arith;
      buses = omega arith;
      names = λ i j d less within. absurd (omega (arith, less, within));
      valid = All-cons IsValidBus a [] (bus_valid (x ∷ []) a (omega arith) (omega arith) e) (All-nil IsValidBus);
    } in
    subst IsValidBench (sym same) valid

two_names : (a b : Bus) (x y : ℕ) → (x ≡ y → ⊥) → IsEmptyBus (x ∷ []) a → IsEmptyBus (y ∷ []) b → AllPairs (λ (c d : Bus). c.name ≢ d.name) (a ∷ b ∷ [])
two_names a b x y other e f zero zero d less within = absurd (omega (arith, less))
two_names a b x y other e f zero (suc zero) d less within = λ same. other (cc (e.name_is, f.name_is, same))
two_names a b x y other e f zero (suc (suc j)) d less within = absurd (omega (arith, within))
two_names a b x y other e f (suc i) j d less within = absurd (omega (arith, less, within))

pub two_valid : (bench : Bench) (a b : Bus) (x y : ℕ) → (x ≡ y → ⊥) → bench.buses ≡ a ∷ b ∷ [] → IsEmptyBus (x ∷ []) a → IsEmptyBus (y ∷ []) b → IsValidBench bench
two_valid bench a b x y other is e f =
    let made : Bench = record { buses = a ∷ b ∷ [] } in
    let same : bench ≡ made = ap (λ (bs : List Bus). let r : Bench = record { buses = bs } in r) is in
    let valid : IsValidBench made = record {
      some_buses = omega arith;
      buses = omega arith;
      names = two_names a b x y other e f;
      valid = All-cons IsValidBus a (b ∷ []) (bus_valid (x ∷ []) a (omega arith) (omega arith) e)
          (All-cons IsValidBus b [] (bus_valid (y ∷ []) b (omega arith) (omega arith) f) (All-nil IsValidBus));
    } in
    subst IsValidBench (sym same) valid
