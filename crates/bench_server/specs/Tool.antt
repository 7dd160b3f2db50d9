-- A run of the tool for the words of its command line.
use Rattle.std.specs.Prelude.{◌≡◌, ◌⊎◌, ℕ, ◌<◌, List, [], length, map, All, Option, Some, None, IfSome}
use Rattle.port_io.specs.Causes.{Rose}
use Rattle.port_io.specs.OtherSide.{SourceState, SinkState}
use Rattle.candump_log.specs.LinesState.{log_limit}
use Rattle.tool_words.specs.Commands.{ToolCommand, Decodes, Checks, Mills}
use Rattle.bench_file.specs.declared.plan.Plan.{Plan}
use Rattle.bench_file.specs.declared.plan.PlannedBus.{PlannedBus}
use Rattle.bench_inputs.specs.Asking.{Files}
use Rattle.bench_inputs.specs.BenchFiles.{HasPlan}
use Rattle.bench_loader.specs.Verdict.{Verdict, missing, faulty, refused, large, decodes, IsVerdict, Run}
use Rattle.bench_server.specs.declared.status.Status.{Status}
use Rattle.bench_server.specs.declared.status.Status.TheVariants as status
use Rattle.bench_model.specs.declared.database.Database.{Database}
use Rattle.bench_loader.specs.Checking.{CheckVerdict, not_there, has_fault, has_database, IsCheckVerdict}
use Rattle.bench_server.specs.ToolText.{tool_text, check_text}
use Rattle.bench_server.specs.Outcomes.{Seen, Wrote, WrotePrefix, DidNothing, StopsAt, WroteTo, EndsDecode}
use Rattle.bench_server.specs.CheckOutcomes.{EndsCheck}
use Rattle.bench_server.specs.MillOutcomes.{EndsMill}
use Rattle.bench_server.specs.Pieces.{WritesPrefix}
use Rattle.bench_server.specs.FaultLine.{fault_line}

-- words of no command: nothing is asked for and nothing is written
pub record IsUsage (s : Seen) (end : Status) : Type 0 where
  pub usage : end ≡ status.Usage
  pub library : s.library_now ≡ s.library
  pub out : s.out_now ≡ s.out
  pub no_logs : s.logs ≡ []

-- a run for the command that the words name, or for words of none
abbrev pub EndsTool : Option ToolCommand → Seen → Status → Type 0
EndsTool None s end = IsUsage s end
EndsTool (Some (Decodes bench)) s end = EndsDecode bench s end
EndsTool (Some (Checks file)) s end = EndsCheck file s end
EndsTool (Some (Mills frames)) s end = EndsMill frames s end

-- the files decide that logs are decoded, and this holds of the run
abbrev pub Decided : Verdict → (Run → Type 0) → Type 0
Decided missing Holds = ⊥
Decided (faulty line) Holds = ⊥
Decided (refused bus fault) Holds = ⊥
Decided (large need room) Holds = ⊥
Decided (decodes run) Holds = Holds run

-- the files decide that the bench file is no fault, no database is refused and the bench fits, so that logs may be opened
abbrev pub MayOpenLogs : Verdict → Type 0
MayOpenLogs missing = Unit {0}
MayOpenLogs (faulty line) = ⊥
MayOpenLogs (refused bus fault) = ⊥
MayOpenLogs (large need room) = ⊥
MayOpenLogs (decodes run) = Unit {0}

-- what each status says of the verdict that the files decide
abbrev pub Agrees : Verdict → Seen → Status → Type 0
Agrees v s status.Ok = Decided v (λ run. Wrote s (tool_text run))
Agrees v s status.Usage = ⊥
Agrees v s (status.BenchFile line) = v ≡ faulty line
Agrees v s (status.Refused None fault) = ⊥
Agrees v s (status.Refused (Some bus) fault) = v ≡ refused bus fault
Agrees v s (status.TooLarge need room) = v ≡ large need room
Agrees v s status.OpenFault = (s.logs ≡ []) ⊎ MayOpenLogs v
Agrees v s (status.ReadFault None) = Unit {0}
Agrees v s (status.ReadFault (Some bus)) = Decided v (λ run. StopsAt s.logs bus (WroteTo s run bus))
Agrees v s status.WriteFault = Decided v (λ run. WrotePrefix s (tool_text run))
Agrees v s (status.TooLong bus) = Decided v (λ run. StopsAt s.logs bus (WroteTo s run bus))
Agrees v s status.Memory = DidNothing s ⊎ Decided v (λ run. WrotePrefix s (tool_text run))

-- the file is a database, and this holds of it
abbrev pub Held : CheckVerdict → (Database → Type 0) → Type 0
Held not_there Holds = ⊥
Held (has_fault fault) Holds = ⊥
Held (has_database d) Holds = Holds d

-- what each status says of the verdict that the files decide of one that is checked
abbrev pub AgreesCheck : CheckVerdict → Seen → Status → Type 0
AgreesCheck v s status.Ok = Held v (λ d. Wrote s (check_text d))
AgreesCheck v s status.Usage = ⊥
AgreesCheck v s (status.BenchFile line) = ⊥
AgreesCheck v s (status.Refused None fault) = v ≡ has_fault fault
AgreesCheck v s (status.Refused (Some bus) fault) = ⊥
AgreesCheck v s (status.TooLarge need room) = ⊥
AgreesCheck v s status.OpenFault = Unit {0}
AgreesCheck v s (status.ReadFault None) = Unit {0}
AgreesCheck v s (status.ReadFault (Some bus)) = ⊥
AgreesCheck v s status.WriteFault = Held v (λ d. WrotePrefix s (check_text d))
AgreesCheck v s (status.TooLong bus) = ⊥
AgreesCheck v s status.Memory = Unit {0}

-- whatever verdict the files have, the status agrees with it; where no file is asked for, they have none
abbrev pub AgreesWithFiles : Option ToolCommand → Seen → Status → Type 0
AgreesWithFiles None s end = Unit {0}
AgreesWithFiles (Some (Decodes bench)) s end =
    IfSome s.library.files (λ files. (v : Verdict) → IsVerdict files bench v → Agrees v s end)
AgreesWithFiles (Some (Checks file)) s end =
    IfSome s.library.files (λ files. (v : CheckVerdict) → IsCheckVerdict files file v → AgreesCheck v s end)
AgreesWithFiles (Some (Mills frames)) s end = Unit {0}

-- the names of the buses that the bench file of this name plans
abbrev pub plan_names : List PlannedBus → List (List ℕ)
plan_names buses = map (λ (bus : PlannedBus). bus.name) buses

pub record ArePlanned (files : Files) (bench : List ℕ) (names : List (List ℕ)) : Type 0 where
  pub plan : Plan
  pub has_plan : HasPlan files bench plan
  pub planned : names ≡ plan_names plan.buses

-- a status that names a bus names it as the bench file does
abbrev pub NamesBuses : Files → List ℕ → List (List ℕ) → Status → Type 0
NamesBuses files bench names (status.Refused (Some bus) fault) = ArePlanned files bench names
NamesBuses files bench names (status.ReadFault (Some bus)) = ArePlanned files bench names
NamesBuses files bench names (status.TooLong bus) = ArePlanned files bench names
NamesBuses files bench names (status.Refused None fault) = Unit {0}
NamesBuses files bench names (status.ReadFault None) = Unit {0}
NamesBuses files bench names status.Ok = Unit {0}
NamesBuses files bench names status.Usage = Unit {0}
NamesBuses files bench names (status.BenchFile line) = Unit {0}
NamesBuses files bench names (status.TooLarge need room) = Unit {0}
NamesBuses files bench names status.OpenFault = Unit {0}
NamesBuses files bench names status.WriteFault = Unit {0}
NamesBuses files bench names status.Memory = Unit {0}

-- the line of a status was appended to the error output, or a prefix of it where that sink's count rose
pub record Reports (named : List (List ℕ) → Type 0) (err err_now : SinkState) (end : Status) : Type 0 where
  pub names : List (List ℕ)
  pub are_names : named names
  pub line : WritesPrefix err (fault_line names end) err_now

abbrev pub ReportsTool : Option Files → Option ToolCommand → SinkState → SinkState → Status → Type 0
ReportsTool files (Some (Decodes bench)) err err_now end =
    Reports (λ names. IfSome files (λ fs. NamesBuses fs bench names end)) err err_now end
ReportsTool files (Some (Checks file)) err err_now end = Reports (λ names. names ≡ []) err err_now end
ReportsTool files (Some (Mills frames)) err err_now end = Reports (λ names. names ≡ []) err err_now end
ReportsTool files None err err_now end = Reports (λ names. names ≡ []) err err_now end

-- no count of faults rose, of the library, of the output or of a log
pub record NothingFailed (s : Seen) : Type 0 where
  pub opens : Rose s.library.open_faults s.library_now.open_faults → ⊥
  pub reads : Rose s.library.more_faults s.library_now.more_faults → ⊥
  pub writes : Rose s.out.write_faults s.out_now.write_faults → ⊥
  pub logs : All (λ (log : SourceState). log.read_faults ≡ 0) s.logs

-- each log is shorter than 2^40 bytes
abbrev pub AreShort : List (List ℕ) → Type 0
AreShort logs = All (λ (bytes : List ℕ). length bytes < log_limit) logs

-- the run is whole, or memory ran out
abbrev pub IsWhole : Status → Type 0
IsWhole end = (end ≡ status.Ok) ⊎ (end ≡ status.Memory)
