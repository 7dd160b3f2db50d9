-- A bus without messages, as the tests make it.
use Rattle.std.specs.Prelude.{◌≡◌, ℕ, List, []}
use Rattle.bench_model.specs.declared.database.Bus.{Bus}

pub record IsEmptyBus (name : List ℕ) (bus : Bus) : Type 0 where
  pub name_is : bus.name ≡ name
  pub no_messages : bus.database.messages ≡ []
