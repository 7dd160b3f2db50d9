use Rattle.std.proofs.Common.{◌≡◌, ◌≤◌, ◌-◌, length, take}
use Rattle.std.specs.Io.KnownBytes.{append_known}
use Rattle.bus_text.proofs.buffer.write_prefix.Given as goal

-- the first bytes of the text were written
abbrev pub invariant-pieces : goal.invariant-pieces
invariant-pieces g l = record {
  within : l.count ≤ length l.fn.text;
  written : g.K.Sink.written l.out ≡ append_known (g.K.Sink.written l.fn.out) (take l.count l.fn.text);
  other : g.K.Sink.other l.out ≡ g.K.Sink.other l.fn.out;
  later : g.K.Sink.write_faults l.fn.out ≤ g.K.Sink.write_faults l.out;
}

abbrev pub decreases-pieces : goal.decreases-pieces
decreases-pieces g l = length l.fn.text - l.count
