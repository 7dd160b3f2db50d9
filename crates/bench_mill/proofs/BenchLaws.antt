-- The bench of a valid generated database is valid.
use Rattle.std.proofs.Common.{[], ◌∷◌, arith}
use Rattle.std.proofs.lemmas.List.Elements.{All-from_recursion}
use Rattle.bench_model.specs.Check.{IsValid}
use Rattle.bench_model.specs.ValidBench.{IsValidBus, IsValidBench}
use Rattle.mill_database.specs.GeneratedDatabase.{generated_database}
use Rattle.bench_mill.specs.GeneratedBench.{generated_bus, generated_bench}

pub valid_bench : IsValid generated_database → IsValidBench generated_bench
valid_bench valid = record {
  some_buses = omega arith;
  buses = omega arith;
  names = λ i j d less within. absurd (omega arith);
  valid = All-from_recursion IsValidBus (generated_bus ∷ []) (record { some_bytes = omega arith; bytes = omega arith; database = valid }, tt);
}
