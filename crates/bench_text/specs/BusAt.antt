-- One bus printed from its log, which is among those of the other buses; and its refusal with its place.
use Rattle.std.specs.Prelude.{◌≡◌, ℕ, false, List, ◌∷◌, ◌++◌, length, Some, Result, slice_get}
use Rattle.port_io.specs.OtherSide.{SourceState}
use Rattle.bench_model.specs.declared.database.Bench.{Bench}
use Rattle.subscriber_text.specs.Wants.{WantList}
use Rattle.bus_text.specs.declared.refused.BusRefused.{BusRefused}
use Rattle.bus_text.specs.declared.refused.BusRefused.TheVariants as bus
use Rattle.bus_text.specs.BusText.{bus_at}
use Rattle.bus_text.specs.Buffering.{Output}
use Rattle.bus_text.specs.Printing.{PrintsBus}
use Rattle.bench_text.specs.declared.refused.BusesRefused.{BusesRefused}
use Rattle.bench_text.specs.declared.refused.BusesRefused.TheVariants as buses

-- there is a log at this place, which has not ended
abbrev pub HasLog : ℕ → List SourceState → Type 0
HasLog place logs = (log : SourceState) × (slice_get logs place ≡ Some log) × (log.ended ≡ false)

-- the log at this place was printed, and the others are as they were
pub record PrintsAt (w : WantList) (bench : Bench) (place : ℕ) (logs logs_now : List SourceState) (before now : Output)
    (result : Result (Unit {0}) BusRefused) : Type 0 where
  pub first : List SourceState
  pub log : SourceState
  pub log_now : SourceState
  pub behind : List SourceState
  pub parted : logs ≡ first ++ log ∷ behind
  pub parted_now : logs_now ≡ first ++ log_now ∷ behind
  pub count : length first ≡ place
  pub prints : PrintsBus w bench (bus_at bench place) log log_now before now result

-- a refusal of the bus at this place
abbrev pub refused_at : ℕ → BusRefused → BusesRefused
refused_at place bus.ReadFault = buses.ReadFault place
refused_at place bus.TooLong = buses.TooLong place
refused_at place bus.WriteFault = buses.WriteFault
refused_at place bus.Memory = buses.Memory
