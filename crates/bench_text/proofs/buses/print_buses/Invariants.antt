use Rattle.std.proofs.Common.{◌≡◌, map, vec_len}
use Rattle.candump_log.specs.LinesState.{source_state}
use Rattle.bus_text.specs.Buffering.{output}
use Rattle.bench_text.proofs.BusesLaws.{GoesOn}
use Rattle.bench_text.proofs.buses.print_buses.Given as goal

-- the buses before this place were printed from their logs
abbrev pub invariant-loop-place : goal.invariant-loop-place
invariant-loop-place g l = record {
  goes : GoesOn l.fn.wants l.fn.image l.place
      (map (λ log. source_state (g.S.Source.left log) (g.S.Source.taken log) (g.S.Source.read_faults log) (g.S.Source.ended log)) l.fn.logs.items)
      (map (λ log. source_state (g.S.Source.left log) (g.S.Source.taken log) (g.S.Source.read_faults log) (g.S.Source.ended log)) l.logs.items)
      (output (g.K.Sink.written l.fn.out) (g.K.Sink.write_faults l.fn.out) l.fn.buffer)
      (output (g.K.Sink.written l.out) (g.K.Sink.write_faults l.out) l.buffer);
  bench : l.image ≡ l.fn.image;
  len : vec_len l.logs ≡ vec_len l.fn.logs;
  log_sides : map g.S.Source.other l.logs.items ≡ map g.S.Source.other l.fn.logs.items;
  other : g.K.Sink.other l.out ≡ g.K.Sink.other l.fn.out;
}
