-- What a report of a status answers.
use Rattle.std.specs.Prelude.{◌≡◌, ◌⊎◌, ℕ, Option}
use Rattle.bench_loader.specs.declared.fault.DatabaseFault.{DatabaseFault}
use Rattle.bench_server.specs.declared.status.Status.{Status}
use Rattle.bench_server.specs.declared.status.Status.TheVariants as status

-- the line of a refused database takes memory, and there was none
pub record LacksMemory (was now : Status) : Type 0 where
  pub bus : Option ℕ
  pub fault : DatabaseFault
  pub refused : was ≡ status.Refused bus fault
  pub memory : now ≡ status.Memory

-- the status stays, unless there is no memory for its line
abbrev pub Stays : Status → Status → Type 0
Stays was now = (now ≡ was) ⊎ LacksMemory was now
