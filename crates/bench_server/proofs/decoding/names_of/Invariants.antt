use Rattle.std.proofs.Common.{◌≡◌, take, map}
use Rattle.bench_model.specs.declared.database.Bus.{Bus}
use Rattle.bench_server.proofs.decoding.names_of.Given as goal

-- the names of the buses so far
abbrev pub invariant-loop-bus : goal.invariant-loop-bus
invariant-loop-bus l = l.names.items ≡ map (λ (bus : Bus). bus.name) (take l.bus-index l.bus-items)
