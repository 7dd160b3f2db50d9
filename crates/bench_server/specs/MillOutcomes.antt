-- How a run of `mill` ends: it asks for no file, so its output and memory alone decide.
use Rattle.std.specs.Prelude.{◌≡◌, ℕ, []}
use Rattle.port_io.specs.Causes.{Rose}
use Rattle.bench_mill.specs.Totals.{mill_text}
use Rattle.bench_server.specs.declared.status.Status.{Status}
use Rattle.bench_server.specs.declared.status.Status.TheVariants as status
use Rattle.bench_server.specs.Outcomes.{Seen, Wrote, WroteNothing, WrotePrefix}

-- the cause of each status, and what was written
abbrev pub CausedMill : ℕ → Seen → Status → Type 0
CausedMill frames s status.Ok = Wrote s (mill_text frames)
CausedMill frames s status.Usage = ⊥
CausedMill frames s (status.BenchFile line) = ⊥
CausedMill frames s (status.Refused bus fault) = ⊥
CausedMill frames s (status.TooLarge need room) = ⊥
CausedMill frames s status.OpenFault = ⊥
CausedMill frames s (status.ReadFault bus) = ⊥
CausedMill frames s status.WriteFault =
    Rose s.out.write_faults s.out_now.write_faults × WrotePrefix s (mill_text frames)
CausedMill frames s (status.TooLong bus) = ⊥
CausedMill frames s status.Memory = WroteNothing s

-- A run of `mill` over so many frames.
pub record EndsMill (frames : ℕ) (s : Seen) (end : Status) : Type 0 where
  pub caused : CausedMill frames s end
  pub library : s.library_now ≡ s.library
  pub no_logs : s.logs ≡ []
