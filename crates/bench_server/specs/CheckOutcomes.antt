-- How a run of `check` ends: for each status its cause, whatever is known of the outside, and what it shows where the
-- library shows its files.
use Rattle.std.specs.Prelude.{◌≡◌, ℕ, List, [], Some, None, IfSome, IsSome}
use Rattle.port_io.specs.Causes.{Rose}
use Rattle.port_io.specs.Library.{named}
use Rattle.bench_model.specs.declared.database.Database.{Database}
use Rattle.bench_inputs.specs.Asking.{Files}
use Rattle.bench_loader.specs.Checking.{HoldsNamed, IsRefusedNamed}
use Rattle.bench_server.specs.declared.status.Status.{Status}
use Rattle.bench_server.specs.declared.status.Status.TheVariants as status
use Rattle.bench_server.specs.ToolText.{check_text}
use Rattle.bench_server.specs.Outcomes.{Seen, Wrote, WroteNothing, WrotePrefix}

-- the file is a database, and this holds of it
pub record Counts (files : Files) (name : List ℕ) (Holds : Database → Type 0) : Type 0 where
  pub database : Database
  pub is_there : HoldsNamed files name database
  pub holds : Holds database

-- the cause of each status, and what was written before the file was judged
abbrev pub CausedCheck : Seen → Status → Type 0
CausedCheck s status.Ok = Unit {0}
CausedCheck s status.Usage = ⊥
CausedCheck s (status.BenchFile line) = ⊥
CausedCheck s (status.Refused None fault) = WroteNothing s
CausedCheck s (status.Refused (Some bus) fault) = ⊥
CausedCheck s (status.TooLarge need room) = ⊥
CausedCheck s status.OpenFault = Rose s.library.open_faults s.library_now.open_faults × WroteNothing s
CausedCheck s (status.ReadFault None) = Rose s.library.more_faults s.library_now.more_faults × WroteNothing s
CausedCheck s (status.ReadFault (Some bus)) = ⊥
CausedCheck s status.WriteFault = Rose s.out.write_faults s.out_now.write_faults
CausedCheck s (status.TooLong bus) = ⊥
CausedCheck s status.Memory = WroteNothing s

-- what each status shows of the file, and what was written
abbrev pub ShowsCheck : Files → List ℕ → Seen → Status → Type 0
ShowsCheck files name s status.Ok = Counts files name (λ d. Wrote s (check_text d))
ShowsCheck files name s status.Usage = ⊥
ShowsCheck files name s (status.BenchFile line) = ⊥
ShowsCheck files name s (status.Refused None fault) = IsRefusedNamed files name fault
ShowsCheck files name s (status.Refused (Some bus) fault) = ⊥
ShowsCheck files name s (status.TooLarge need room) = ⊥
ShowsCheck files name s status.OpenFault = Unit {0}
ShowsCheck files name s (status.ReadFault None) = Unit {0}
ShowsCheck files name s (status.ReadFault (Some bus)) = ⊥
ShowsCheck files name s status.WriteFault = Counts files name (λ d. WrotePrefix s (check_text d))
ShowsCheck files name s (status.TooLong bus) = ⊥
ShowsCheck files name s status.Memory = Unit {0}

-- A run of `check` over the file of this name, which opens no log.
pub record EndsCheck (name : List ℕ) (s : Seen) (end : Status) : Type 0 where
  pub caused : CausedCheck s end
  pub shows : IfSome s.library.files (λ files. ShowsCheck files name s end)
  pub no_logs : s.logs ≡ []
  pub strays : IfSome s.library.files (λ files. IsSome (named files name) → s.library_now.strays ≡ s.library.strays)
