-- The bench that is made for `mill`: one CAN bus with the generated database.
use Rattle.std.specs.Prelude.{[], ◌∷◌, codes}
use Rattle.bench_model.specs.declared.database.Kind.TheVariants.{Can}
use Rattle.bench_model.specs.declared.database.Bus.{Bus}
use Rattle.bench_model.specs.declared.database.Bench.{Bench}
use Rattle.mill_database.specs.GeneratedDatabase.{generated_database}

abbrev pub generated_bus : Bus
generated_bus = record { name = codes "can0"; kind = Can; database = generated_database }

abbrev pub generated_bench : Bench
generated_bench = record { buses = generated_bus ∷ [] }
