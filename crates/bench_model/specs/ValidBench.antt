-- A valid bench: 1 to 16 buses with different names of 1 to 32 bytes, each with a valid database. These limits are this
-- project's own.
use Rattle.std.specs.Prelude.{◌≡◌, ◌≢◌, ℕ, ◌≤◌, All, AllPairs, length, slice_index_or}
use Rattle.bench_model.specs.declared.database.Bus.{Bus}
use Rattle.bench_model.specs.declared.database.Bench.{Bench}
use Rattle.bench_model.specs.Check.{IsValid}

abbrev pub most_buses : ℕ
most_buses = 16

abbrev pub longest_bus_name : ℕ
longest_bus_name = 32

-- a bus whose name has 1 to 32 bytes and whose database is valid
pub record IsValidBus (bus : Bus) : Type 0 where
  pub some_bytes : 1 ≤ length bus.name
  pub bytes : length bus.name ≤ longest_bus_name
  pub database : IsValid bus.database

pub record IsValidBench (bench : Bench) : Type 0 where
  pub some_buses : 1 ≤ length bench.buses
  pub buses : length bench.buses ≤ most_buses
  pub names : AllPairs (λ (a b : Bus). a.name ≢ b.name) bench.buses
  pub valid : All IsValidBus bench.buses

-- two benches with the same number of buses, the same names and the same kinds, in order
pub record HasBusesOf (after before : Bench) : Type 0 where
  pub number : length after.buses ≡ length before.buses
  pub each : (i : ℕ) (d : Bus) → (slice_index_or after.buses i d).name ≡ (slice_index_or before.buses i d).name
  pub kinds : (i : ℕ) (d : Bus) → (slice_index_or after.buses i d).kind ≡ (slice_index_or before.buses i d).kind
