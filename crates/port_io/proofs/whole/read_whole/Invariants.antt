use Rattle.std.proofs.Common.{◌≡◌, ◌+◌, ◌-◌, ◌≤◌, true, vec_len}
use Rattle.std.specs.Io.KnownBytes.{prepend_known}
use Rattle.port_io.specs.Library.{OpensFile, strays_after}
use Rattle.port_io.proofs.whole.read_whole.Given as goal

-- the bytes kept and those left are the named file
abbrev pub invariant-loop-count : goal.invariant-loop-count
invariant-loop-count g l = record {
  parted : OpensFile (g.B.Library.files l.fn.library) l.fn.name (prepend_known l.bytes.items (g.B.Library.left l.library));
  within : vec_len l.bytes ≤ l.limit;
  begun : g.B.Library.begun l.library ≡ true;
  files : g.B.Library.files l.library ≡ g.B.Library.files l.fn.library;
  opens_later : g.B.Library.open_faults l.fn.library ≤ g.B.Library.open_faults l.library;
  reads_later : g.B.Library.more_faults l.fn.library ≤ g.B.Library.more_faults l.library;
  strays : g.B.Library.strays l.library ≡ strays_after (g.B.Library.files l.fn.library) l.fn.name (g.B.Library.strays l.fn.library);
}

abbrev pub decreases-loop-count : goal.decreases-loop-count
decreases-loop-count g l = l.limit + 1 - vec_len l.bytes
