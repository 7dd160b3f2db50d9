-- The bench that planned buses make is valid, where the database of each is.
use Rattle.std.proofs.Common.{◌≡◌, ◌≢◌, ℕ, ◌<◌, ◌≤◌, zero, suc, true, List, [], ◌∷◌, length, None, sym, subst, ◌∙◌, arith}
use Rattle.std.specs.Prelude.{zip, slice_index_or, nat_le}
use Rattle.std.specs.List.{All, AllPairs, AllByRecursion}
use Rattle.std.proofs.lemmas.Bool.{and_parts}
use Rattle.std.proofs.lemmas.Bool.Decides.{nat_tests}
use Rattle.std.proofs.lemmas.List.Elements.{recursion_from_All, All-from_recursion}
use Rattle.bench_model.specs.declared.database.Kind.TheVariants as kinds
use Rattle.bench_model.specs.declared.database.Bus.{Bus}
use Rattle.bench_model.specs.declared.database.Bench.{Bench}
use Rattle.bench_model.specs.Check.{IsValid}
use Rattle.bench_model.specs.ValidBench.{IsValidBus, IsValidBench, longest_bus_name}
use Rattle.bench_file.specs.declared.plan.PlannedBus.{PlannedBus}
use Rattle.bench_file.specs.LineMeaning.{is_bus_name}
use Rattle.bench_file.specs.PlanOf.{IsPlannedBus}
use Rattle.bench_inputs.specs.declared.database_file.DatabaseFile.{DatabaseFile}
use Rattle.bench_loader.specs.Judging.{AreBuses}
use Rattle.bench_server.specs.Loading.{ArePlannedBuses}

none_below : (i : ℕ) → i < 0 → ⊥
none_below i lt = absurd (omega (arith, lt))

-- each bus has the name that is planned
names_at : (buses : List PlannedBus) (read : List DatabaseFile) (made : List Bus) → AreBuses (zip buses read) made → (i : ℕ) (d : Bus) (e : PlannedBus)
    → i < length made → (slice_index_or made i d).name ≡ (slice_index_or buses i e).name
names_at [] read [] are i d e lt = absurd (none_below i lt)
names_at [] read (b ∷ bs) are i d e lt = absurd are
names_at (p ∷ ps) [] [] are i d e lt = absurd (none_below i lt)
names_at (p ∷ ps) [] (b ∷ bs) are i d e lt = absurd are
names_at (p ∷ ps) (f ∷ fs) [] are i d e lt = absurd are
names_at (p ∷ ps) (f ∷ fs) (b ∷ bs) are zero d e lt = are.0.name
names_at (p ∷ ps) (f ∷ fs) (b ∷ bs) are (suc i) d e lt = names_at ps fs bs are.1 i d e (omega (arith, lt))

-- so their names are different
different : (buses : List PlannedBus) (read : List DatabaseFile) (made : List Bus) → length made ≡ length buses → AreBuses (zip buses read) made
    → AllPairs (λ (a b : PlannedBus). a.name ≢ b.name) buses → AllPairs (λ (a b : Bus). a.name ≢ b.name) made
different buses read made n are p i j d lt within same =
    let e : PlannedBus = record { name = []; kind = kinds.Can; log = []; database = None } in
    p i j e lt (omega (arith, within, n))
    (sym (names_at buses read made are i d e (omega (arith, lt, within))) ∙ same ∙ names_at buses read made are j d e within)

is_at_most : (n x : ℕ) → nat_le n x ≡ true → n ≤ x
is_at_most n x h = grind (arith, nat_tests)

bus_valid : (name : List ℕ) (bus : Bus) → bus.name ≡ name → is_bus_name name ≡ true → IsValid bus.database → IsValidBus bus
bus_valid name bus same form valid =
    let some = and_parts _ _ form in
    let short = and_parts _ _ some.1 in
    record {
      some_bytes = subst (λ (n : List ℕ). 1 ≤ length n) (sym same) (is_at_most 1 (length name) some.0);
      bytes = subst (λ (n : List ℕ). length n ≤ longest_bus_name) (sym same) (is_at_most (length name) longest_bus_name short.0);
      database = valid;
    }

each_valid : (buses : List PlannedBus) (read : List DatabaseFile) (made : List Bus) → AreBuses (zip buses read) made → AllByRecursion IsPlannedBus buses
    → AllByRecursion (λ (bus : Bus). IsValid bus.database) made → AllByRecursion IsValidBus made
each_valid [] read [] are forms valid = tt
each_valid [] read (b ∷ bs) are forms valid = absurd are
each_valid (p ∷ ps) [] [] are forms valid = tt
each_valid (p ∷ ps) [] (b ∷ bs) are forms valid = absurd are
each_valid (p ∷ ps) (f ∷ fs) [] are forms valid = absurd are
each_valid (p ∷ ps) (f ∷ fs) (b ∷ bs) are forms valid =
    (bus_valid p.name b are.0.name forms.0.name valid.0, each_valid ps fs bs are.1 forms.1 valid.1)

pub valid_bench : (buses : List PlannedBus) (read : List DatabaseFile) (bench : Bench) → ArePlannedBuses buses → length bench.buses ≡ length buses
    → AreBuses (zip buses read) bench.buses → All (λ (bus : Bus). IsValid bus.database) bench.buses → IsValidBench bench
valid_bench buses read bench planned n are valid = record {
  some_buses = omega (arith, n, planned.some_bus);
  buses = omega (arith, n, planned.few);
  names = different buses read bench.buses n are planned.names;
  valid = All-from_recursion IsValidBus bench.buses
      (each_valid buses read bench.buses are (recursion_from_All IsPlannedBus buses planned.forms)
      (recursion_from_All (λ (bus : Bus). IsValid bus.database) bench.buses valid));
}
