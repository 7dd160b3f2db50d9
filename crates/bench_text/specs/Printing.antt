-- What a print of a bench's buses does: to their logs, to the sink, and what it answers.
use Rattle.std.specs.Prelude.{◌≡◌, ℕ, ◌<◌, ◌≤◌, false, List, [], ◌++◌, length, IfSome, Result, Ok, Err}
use Rattle.std.specs.List.{AllZip}
use Rattle.std.specs.Io.KnownBytes.{append_known}
use Rattle.port_io.specs.Causes.{Rose}
use Rattle.port_io.specs.OtherSide.{SourceState, SinkState}
use Rattle.bench_model.specs.declared.database.Bench.{Bench}
use Rattle.candump_log.specs.LinesState.{log_limit}
use Rattle.subscriber_text.specs.Wants.{WantList}
use Rattle.bench_text.specs.declared.refused.BusesRefused.{BusesRefused}
use Rattle.bench_text.specs.declared.refused.BusesRefused.TheVariants as refused
use Rattle.bench_text.specs.BenchText.{part_text, bench_text}
use Rattle.bench_text.specs.LogsRead.{HaveLeft, HasRead, IsReadToEnd, StopsAt, ReadsInOrder}

-- all logs were read to their ends, and the text of the bench was written
pub record PrintsAll (w : WantList) (bench : Bench) (logs logs_now : List SourceState) (out out_now : SinkState) : Type 0 where
  pub to_end : AllZip IsReadToEnd logs logs_now
  pub text : (bytes : List (List ℕ)) → HaveLeft logs bytes
      → out_now.written ≡ append_known out.written (bench_text w bench bytes)

-- The log at this place did not end. The texts of the buses before it were written, and then its own as far as the whole
-- lines of the bytes taken of it go.
pub record PrintsTo (w : WantList) (bench : Bench) (place : ℕ) (logs logs_now : List SourceState) (out out_now : SinkState) : Type 0 where
  pub stops : StopsAt place logs logs_now
  pub goes_on : stops.log_now.ended ≡ false
  pub text : (bytes : List (List ℕ)) → HaveLeft stops.heard bytes → IfSome stops.log.left
      (λ _. out_now.written ≡ append_known out.written (bench_text w bench bytes ++ part_text w bench place stops.took))

-- the logs were read in order, and a prefix of the text of the bench was written
pub record PrintsPrefix (w : WantList) (bench : Bench) (logs logs_now : List SourceState) (out out_now : SinkState) : Type 0 where
  pub reads : ReadsInOrder logs logs_now
  pub sent : List ℕ
  pub written : out_now.written ≡ append_known out.written sent
  pub prefix : (bytes : List (List ℕ)) → HaveLeft logs bytes
      → (ahead : List ℕ) × (sent ++ ahead ≡ bench_text w bench bytes)

-- a row for each answer: what was read and written, and the cause
abbrev pub Ends : WantList → Bench → List SourceState → List SourceState → SinkState → SinkState
    → Result (Unit {0}) BusesRefused → Type 0
Ends w bench logs logs_now out out_now (Ok done) = PrintsAll w bench logs logs_now out out_now
Ends w bench logs logs_now out out_now (Err (refused.ReadFault bus)) =
    (p : PrintsTo w bench bus logs logs_now out out_now)
    × Rose p.stops.log.read_faults p.stops.log_now.read_faults × (length p.stops.took < log_limit)
Ends w bench logs logs_now out out_now (Err (refused.TooLong bus)) =
    (p : PrintsTo w bench bus logs logs_now out out_now) × (length p.stops.took ≡ log_limit)
Ends w bench logs logs_now out out_now (Err refused.WriteFault) =
    PrintsPrefix w bench logs logs_now out out_now × Rose out.write_faults out_now.write_faults
Ends w bench logs logs_now out out_now (Err refused.Memory) = PrintsPrefix w bench logs logs_now out out_now

-- A print of the buses of a bench: what was taken of each log was the first of its bytes left, no count fell, and the
-- answer has its row.
pub record PrintsBuses (w : WantList) (bench : Bench) (logs logs_now : List SourceState) (out out_now : SinkState)
    (result : Result (Unit {0}) BusesRefused) : Type 0 where
  pub read : AllZip HasRead logs logs_now
  pub later : out.write_faults ≤ out_now.write_faults
  pub ends : Ends w bench logs logs_now out out_now result

-- nothing is pending before an answer, but where the sink is what failed
abbrev pub IsWritten : Result (Unit {0}) BusesRefused → List ℕ → Type 0
IsWritten (Ok done) pending = pending ≡ []
IsWritten (Err (refused.ReadFault bus)) pending = pending ≡ []
IsWritten (Err (refused.TooLong bus)) pending = pending ≡ []
IsWritten (Err refused.WriteFault) pending = Unit {0}
IsWritten (Err refused.Memory) pending = pending ≡ []
