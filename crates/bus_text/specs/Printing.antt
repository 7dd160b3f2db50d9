-- What a print of a bus does: to its log, to the sink, and what it answers.
use Rattle.std.specs.Prelude.{◌≡◌, ◌⊎◌, ℕ, ◌<◌, true, false, List, [], ◌++◌, length, map, IfSome, Result, Ok, Err}
use Rattle.byte_forms.specs.Lines.{all_lines}
use Rattle.port_io.specs.Causes.{Rose}
use Rattle.port_io.specs.OtherSide.{SourceState}
use Rattle.bench_model.specs.declared.database.Bench.{Bench}
use Rattle.candump_log.specs.LineOf.{line_of}
use Rattle.candump_log.specs.LogLines.{whole_lines}
use Rattle.candump_log.specs.LinesState.{log_limit}
use Rattle.candump_log.specs.Reads.{TakesBytes}
use Rattle.subscriber_text.specs.Wants.{WantList}
use Rattle.bus_text.specs.declared.bus.BusPlace.{BusPlace}
use Rattle.bus_text.specs.declared.refused.BusRefused.{BusRefused}
use Rattle.bus_text.specs.declared.refused.BusRefused.TheVariants as refused
use Rattle.bus_text.specs.BusText.{text_so_far, bus_text}
use Rattle.bus_text.specs.Buffering.{Output, Buffers}

-- What was taken of the log, and what of its text was given to the buffer: a prefix. `lines` are the texts of all
-- lines of the log where it shows its bytes, and `read` those that were read.
pub record PrintsLines (w : WantList) (bench : Bench) (bus : BusPlace) (log log' : SourceState) (before now : Output) : Type 0 where
  pub took : List ℕ
  pub takes : TakesBytes log log' took
  pub lines : List (List ℕ)
  pub known : IfSome log.left (λ bytes. lines ≡ all_lines bytes)
  pub read : List (List ℕ)
  pub unread : List (List ℕ)
  pub first : lines ≡ read ++ unread
  pub given : List ℕ
  pub ahead : List ℕ
  pub prefix : given ++ ahead ≡ bus_text w bench bus (map line_of lines)
  pub buffers : Buffers before given now

-- the log has not ended, and the text goes just as far as the whole lines among the bytes taken of it
pub record StopsThere {w : WantList} {bench : Bench} {bus : BusPlace} {log log' : SourceState} {before now : Output}
    (p : PrintsLines w bench bus log log' before now) : Type 0 where
  pub goes_on : log'.ended ≡ false
  pub whole : IfSome log.left (λ _. p.read ≡ whole_lines p.took)
  pub text : p.given ≡ text_so_far w bench bus (map line_of p.read)

-- the answer: all was given and the log has ended; or why not
abbrev pub Ends : {w : WantList} {bench : Bench} {bus : BusPlace} {log log' : SourceState} {before now : Output} →
    PrintsLines w bench bus log log' before now → Result (Unit {0}) BusRefused → Type 0
Ends {log' = log'} p (Ok done) = (p.ahead ≡ []) × (log'.ended ≡ true) × IfSome log'.left (λ left. left ≡ [])
Ends {log = log} {log' = log'} p (Err refused.ReadFault) =
    StopsThere p × Rose log.read_faults log'.read_faults × (length p.took < log_limit)
Ends p (Err refused.TooLong) = StopsThere p × (length p.took ≡ log_limit)
Ends {before = before} {now = now} p (Err refused.WriteFault) = Rose before.write_faults now.write_faults
Ends p (Err refused.Memory) = Unit {0}

pub record PrintsBus (w : WantList) (bench : Bench) (bus : BusPlace) (log log' : SourceState) (before now : Output)
    (result : Result (Unit {0}) BusRefused) : Type 0 where
  pub prints : PrintsLines w bench bus log log' before now
  pub ends : Ends prints result

-- before a fault is answered all text was written, but where the sink is what failed
abbrev pub IsWritten : Result (Unit {0}) BusRefused → List ℕ → Type 0
IsWritten (Ok done) pending = Unit {0}
IsWritten (Err refused.ReadFault) pending = pending ≡ []
IsWritten (Err refused.TooLong) pending = pending ≡ []
IsWritten (Err refused.WriteFault) pending = Unit {0}
IsWritten (Err refused.Memory) pending = pending ≡ []

-- an answer stays, or the sink failed when what was pending was written before it
abbrev pub Settles : Result (Unit {0}) BusRefused → ℕ → ℕ → Result (Unit {0}) BusRefused → Type 0
Settles end before now result = (result ≡ end) ⊎ ((result ≡ Err refused.WriteFault) × Rose before now)
