use Rattle.bench_inputs.specs.Asking.{library_state}
use Rattle.bench_loader.proofs.StageLaws.{ReadSo}
use Rattle.bench_loader.proofs.load_files.read_files.Given as goal

-- the files of the pairs so far were asked for and read
abbrev pub invariant-loop-i : goal.invariant-loop-i
invariant-loop-i g l = ReadSo
    (library_state (g.B.Library.files l.fn.library) (g.B.Library.open_faults l.fn.library) (g.B.Library.more_faults l.fn.library) (g.B.Library.strays l.fn.library))
    l.pairs l.i l.files.items
    (library_state (g.B.Library.files l.library) (g.B.Library.open_faults l.library) (g.B.Library.more_faults l.library) (g.B.Library.strays l.library))
