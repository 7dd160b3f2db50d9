-- How a run of `decode` ends. One table says what caused each status, whatever is known of the outside, and one what it
-- shows where the library shows its files.
use Rattle.std.specs.Prelude.{◌≡◌, ◌⊎◌, ℕ, ◌<◌, ◌≤◌, true, false, List, [], ◌∷◌, ◌++◌, length, take, zip, All, Some, None, IfSome}
use Rattle.std.specs.List.{AllZip}
use Rattle.std.specs.Option.{option_map}
use Rattle.std.specs.Io.KnownBytes.{append_known}
use Rattle.port_io.specs.Causes.{Rose}
use Rattle.port_io.specs.OtherSide.{SourceState, SinkState}
use Rattle.candump_log.specs.LinesState.{log_limit}
use Rattle.bench_model.specs.declared.database.Bench.{Bench}
use Rattle.bench_file.specs.declared.plan.Plan.{Plan}
use Rattle.bench_inputs.specs.declared.database_file.DatabaseFile.{DatabaseFile}
use Rattle.bench_inputs.specs.Asking.{Files, LibraryState}
use Rattle.bench_inputs.specs.BenchFiles.{HasBytes, HasPlan, HasFaultyPlan, log_names}
use Rattle.bench_loader.specs.Judging.{AreBuses}
use Rattle.bench_loader.specs.Verdict.{Run, missing, IsVerdict, HasInputs, FitsRegion, IsRefusedBench, IsLargeBench, IsRun}
use Rattle.bench_server.specs.declared.status.Status.{Status}
use Rattle.bench_server.specs.declared.status.Status.TheVariants as status
use Rattle.bench_server.specs.ToolText.{text_of, text_up_to, tool_text}

-- what is before and after: the library, the output, and the logs that were opened, as they are handed back
pub record Seen : Type 0 where
  pub library : LibraryState
  pub library_now : LibraryState
  pub out : SinkState
  pub out_now : SinkState
  pub logs : List SourceState

-- what was written
abbrev pub Wrote : Seen → List ℕ → Type 0
Wrote s text = s.out_now.written ≡ append_known s.out.written text

abbrev pub WroteNothing : Seen → Type 0
WroteNothing s = s.out_now.written ≡ s.out.written

pub record WritesPrefix (out out_now : SinkState) (text : List ℕ) : Type 0 where
  pub sent : List ℕ
  pub rest : List ℕ
  pub parted : sent ++ rest ≡ text
  pub written : out_now.written ≡ append_known out.written sent

abbrev pub WrotePrefix : Seen → List ℕ → Type 0
WrotePrefix s text = WritesPrefix s.out s.out_now text

-- a log was read to its end
pub record IsHeard (log : SourceState) : Type 0 where
  pub ended : log.ended ≡ true
  pub none_left : IfSome log.left (λ left. left ≡ [])

-- a log is as it was opened
pub record IsUnread (log : SourceState) : Type 0 where
  pub none_taken : log.taken ≡ option_map (λ _. []) log.left
  pub no_faults : log.read_faults ≡ 0
  pub not_ended : log.ended ≡ false

-- a read of a log failed before 2^40 bytes of it were taken
pub record HasFailed (log : SourceState) : Type 0 where
  pub goes_on : log.ended ≡ false
  pub failed : 1 ≤ log.read_faults
  pub short : IfSome log.taken (λ taken. length taken < log_limit)

-- 2^40 bytes of a log were taken, and it has not ended
pub record IsTooLong (log : SourceState) : Type 0 where
  pub goes_on : log.ended ≡ false
  pub long : IfSome log.taken (λ taken. length taken ≡ log_limit)

-- this holds of the log at this place; those before it were read to their ends, and those behind it were not read
pub record StopsAt (logs : List SourceState) (bus : ℕ) (Holds : SourceState → Type 0) : Type 0 where
  pub heard : List SourceState
  pub log : SourceState
  pub behind : List SourceState
  pub parted : logs ≡ heard ++ log ∷ behind
  pub count : length heard ≡ bus
  pub to_end : All IsHeard heard
  pub unread : All IsUnread behind
  pub holds : Holds log

-- the logs were read in order: all to their ends, or up to one, and those behind it not at all
abbrev pub AreHeardInOrder : List SourceState → Type 0
AreHeardInOrder logs = All IsHeard logs ⊎ ((bus : ℕ) × StopsAt logs bus (λ _. Unit {0}))

-- the cause of each status: counts that rose, how far the logs were read, and that nothing was written where none was read
abbrev pub Caused : Seen → Status → Type 0
Caused s status.Ok = All IsHeard s.logs
Caused s status.Usage = ⊥
Caused s (status.BenchFile line) = WroteNothing s × (s.logs ≡ [])
Caused s (status.Refused None fault) = ⊥
Caused s (status.Refused (Some bus) fault) = WroteNothing s × (s.logs ≡ [])
Caused s (status.TooLarge need room) = WroteNothing s × (s.logs ≡ [])
Caused s status.OpenFault =
    Rose s.library.open_faults s.library_now.open_faults × WroteNothing s × All IsUnread s.logs
Caused s (status.ReadFault None) =
    Rose s.library.more_faults s.library_now.more_faults × WroteNothing s × (s.logs ≡ [])
Caused s (status.ReadFault (Some bus)) = StopsAt s.logs bus HasFailed
Caused s status.WriteFault = Rose s.out.write_faults s.out_now.write_faults × AreHeardInOrder s.logs
Caused s (status.TooLong bus) = StopsAt s.logs bus IsTooLong
Caused s status.Memory = AreHeardInOrder s.logs

-- the bytes taken of a log and then those left are these
pub record IsLogOf (bytes : List ℕ) (log : SourceState) : Type 0 where
  pub took : List ℕ
  pub rest : List ℕ
  pub taken : log.taken ≡ Some took
  pub left : log.left ≡ Some rest
  pub joined : took ++ rest ≡ bytes

-- the files decide that their logs are decoded, the logs handed back are those, and this holds of the run
pub record Decodes (files : Files) (name : List ℕ) (logs_now : List SourceState) (Holds : Run → Type 0) : Type 0 where
  pub run : Run
  pub is_run : IsRun files name run
  pub logs : AllZip IsLogOf run.logs logs_now
  pub holds : Holds run

-- the bench file and all databases are there, and they make a bench whose image fits
pub record MakesBench (files : Files) (name : List ℕ) : Type 0 where
  pub plan : Plan
  pub databases : List DatabaseFile
  pub inputs : HasInputs files name plan databases
  pub bench : Bench
  pub are_buses : AreBuses (zip plan.buses databases) bench.buses
  pub fits : FitsRegion plan bench

-- the texts of the buses before this place were written, and then that of this one as far as its log was taken
abbrev pub WroteTo : Seen → Run → ℕ → SourceState → Type 0
WroteTo s run bus log = (took : List ℕ) × (log.taken ≡ Some took)
    × Wrote s (text_of run.bench (take bus run.logs) ++ text_up_to run.bench bus took)

-- no log was opened and nothing was written
abbrev pub DidNothing : Seen → Type 0
DidNothing s = (s.logs ≡ []) × WroteNothing s

-- what each status shows of the files, and what was written
abbrev pub Shows : Files → List ℕ → Seen → Status → Type 0
Shows files name s status.Ok = Decodes files name s.logs (λ run. Wrote s (tool_text run))
Shows files name s status.Usage = ⊥
Shows files name s (status.BenchFile line) = HasFaultyPlan files name line
Shows files name s (status.Refused None fault) = ⊥
Shows files name s (status.Refused (Some bus) fault) = IsRefusedBench files name bus fault
Shows files name s (status.TooLarge need room) = IsLargeBench files name need room
Shows files name s status.OpenFault = (s.logs ≡ []) ⊎ MakesBench files name
Shows files name s (status.ReadFault None) = Unit {0}
Shows files name s (status.ReadFault (Some bus)) = Decodes files name s.logs (λ run. StopsAt s.logs bus (WroteTo s run bus))
Shows files name s status.WriteFault = Decodes files name s.logs (λ run. WrotePrefix s (tool_text run))
Shows files name s (status.TooLong bus) = Decodes files name s.logs (λ run. StopsAt s.logs bus (WroteTo s run bus))
Shows files name s status.Memory = DidNothing s ⊎ Decodes files name s.logs (λ run. WrotePrefix s (tool_text run))

-- the file of this name is there, and what was taken of this log and what is left of it are its bytes
abbrev pub IsLogNamed : Files → List ℕ → SourceState → Type 0
IsLogNamed files name log = (bytes : List ℕ) × HasBytes files name bytes × IsLogOf bytes log

-- the logs handed back are of the first buses of the plan, in order
pub record AreFirstLogs (files : Files) (name : List ℕ) (logs : List SourceState) : Type 0 where
  pub plan : Plan
  pub has_plan : HasPlan files name plan
  pub opened : List (List ℕ)
  pub unopened : List (List ℕ)
  pub parted : opened ++ unopened ≡ log_names plan.buses
  pub are_logs : AllZip (IsLogNamed files) opened logs

-- A run of `decode` over the bench file of this name. A name that is not there was asked for only where the files decide
-- that one is missing.
pub record EndsDecode (name : List ℕ) (s : Seen) (end : Status) : Type 0 where
  pub caused : Caused s end
  pub shows : IfSome s.library.files (λ files. Shows files name s end)
  pub logs : IfSome s.library.files (λ files. (s.logs ≡ []) ⊎ AreFirstLogs files name s.logs)
  pub strays : IfSome s.library.files (λ files. (s.library_now.strays ≡ s.library.strays) ⊎ IsVerdict files name missing)
