-- The names that a meaning has: those of a message of the bus's database and of its signals.
use Rattle.std.specs.Prelude.{◌≡◌, ℕ, slice_get, All, IfSome, Option, Some, None}
use Rattle.std.specs.List.{Any}
use Rattle.bench_model.specs.declared.database.Signal.{Signal}
use Rattle.bench_model.specs.declared.database.Message.{Message}
use Rattle.bench_model.specs.declared.database.Bus.{Bus}
use Rattle.bench_model.specs.declared.database.Bench.{Bench}
use Rattle.bench_model.specs.declared.reading.SignalValue.{SignalValue}
use Rattle.bench_model.specs.declared.reading.Plain.{Plain}

-- a value that is named as one of the message's signals
abbrev pub IsNamedIn : Message → SignalValue → Type 0
IsNamedIn m value = Any (λ (s : Signal). s.name ≡ value.name) m.signals

-- the names of this message and of its signals
pub record HasNamesOf (plain : Plain) (m : Message) : Type 0 where
  pub message : plain.name ≡ m.name
  pub signals : All (IsNamedIn m) plain.signals

-- the names of a message of the bus and of its signals
abbrev pub HasNamesOnBus : Plain → Option Bus → Type 0
HasNamesOnBus plain (Some bus) = Any (HasNamesOf plain) bus.database.messages
HasNamesOnBus plain None = ⊥

-- the same of the bus at this place
abbrev pub HasNamesAt : Bench → ℕ → Plain → Type 0
HasNamesAt bench place plain = HasNamesOnBus plain (slice_get bench.buses place)
