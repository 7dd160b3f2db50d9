use Rattle.std.proofs.Common.{◌≡◌, ◌≤◌, ◌++◌, List, ℕ, length}
use Rattle.std.specs.Io.KnownBytes.{append_known}
use Rattle.port_io.proofs.piece.write_piece.Given as goal

-- what is done of the piece was written, and the rest is left to write
abbrev pub invariant-loop-rest : goal.invariant-loop-rest
invariant-loop-rest g l = record {
  parted : (done : List ℕ) × (l.fn.piece ≡ done ++ l.rest) × (g.K.Sink.written l.sink ≡ append_known (g.K.Sink.written l.fn.sink) done);
  other : g.K.Sink.other l.sink ≡ g.K.Sink.other l.fn.sink;
  later : g.K.Sink.write_faults l.fn.sink ≤ g.K.Sink.write_faults l.sink;
}

abbrev pub decreases-loop-rest : goal.decreases-loop-rest
decreases-loop-rest g l = length l.rest
