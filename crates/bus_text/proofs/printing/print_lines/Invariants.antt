use Rattle.std.proofs.Common.{◌≡◌, ◌-◌}
use Rattle.candump_log.specs.LinesState.{log_limit}
use Rattle.bus_text.specs.Buffering.{output}
use Rattle.bus_text.proofs.BusLaws.{GoesOn}
use Rattle.bus_text.proofs.printing.print_lines.Given as goal

-- the text of the lines read so far was given
abbrev pub invariant-lines : goal.invariant-lines
invariant-lines g l = record {
  goes : GoesOn l.fn.wants l.fn.image l.fn.bus l.fn.lines l.lines (output (g.K.Sink.written l.fn.out) (g.K.Sink.write_faults l.fn.out) l.fn.buffer) (output (g.K.Sink.written l.out) (g.K.Sink.write_faults l.out) l.buffer) l.decoder;
  wants : l.printer.wants.now ≡ l.fn.wants;
  bench : l.image ≡ l.fn.image;
  other : g.K.Sink.other l.out ≡ g.K.Sink.other l.fn.out;
}

abbrev pub decreases-lines : goal.decreases-lines
decreases-lines g l = log_limit - l.lines.given
