use Rattle.bus_text.specs.Prefixes.{sink_state}
use Rattle.bench_server.proofs.PieceLaws.{Sent}
use Rattle.bench_server.proofs.pieces.write_pieces.Given as goal

-- the pieces so far were written
abbrev pub invariant-loop-piece : goal.invariant-loop-piece
invariant-loop-piece g l =
    Sent (sink_state (g.K.Sink.written l.fn.out) (g.K.Sink.write_faults l.fn.out)) l.pieces l.piece-index (sink_state (g.K.Sink.written l.out) (g.K.Sink.write_faults l.out))
