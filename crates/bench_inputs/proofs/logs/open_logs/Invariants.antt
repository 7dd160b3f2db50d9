use Rattle.std.proofs.Common.{◌≡◌, ◌≤◌, length, map, vec_len, vec_capacity}
use Rattle.bench_inputs.specs.Asking.{library_state}
use Rattle.bench_inputs.specs.Reading.{log_state}
use Rattle.bench_inputs.proofs.OpeningLaws.{Opened}
use Rattle.bench_inputs.proofs.logs.open_logs.Given as goal

-- the logs of the buses so far were opened, and there is room for the others
abbrev pub invariant-loop-bus : goal.invariant-loop-bus
invariant-loop-bus g l = record {
  opened : Opened
      (library_state (g.B.Library.files l.fn.library) (g.B.Library.open_faults l.fn.library) (g.B.Library.more_faults l.fn.library) (g.B.Library.strays l.fn.library))
      l.buses l.bus-index
      (map (λ log. log_state (g.B.Log.Source.left log) (g.B.Log.Source.taken log) (g.B.Log.Source.read_faults log) (g.B.Log.Source.ended log)) l.logs.items)
      (library_state (g.B.Library.files l.library) (g.B.Library.open_faults l.library) (g.B.Library.more_faults l.library) (g.B.Library.strays l.library));
  count : vec_len l.logs ≡ l.bus-index;
  room : length l.buses ≤ vec_capacity l.logs;
}
