-- What one line of a log gives on a bus: its own record, and on a J1939 bus the record of the message of several packets
-- that its frame completes or breaks off (SAE J1939-21).
use Rattle.std.specs.Prelude.{ℕ, List, [], ◌∷◌, map, Option, Some, None, if◌then◌else◌}
use Rattle.std.specs.List.{flat_map, enumerate_from}
use Rattle.bench_model.specs.declared.database.Key.{Key}
use Rattle.bench_model.specs.declared.database.Kind.{Kind}
use Rattle.bench_model.specs.declared.database.Kind.TheVariants as kind
use Rattle.bench_model.specs.declared.reading.Ask.{Ask}
use Rattle.bench_model.specs.declared.reading.Ask.TheVariants as ask
use Rattle.bench_model.specs.declared.reading.Plain.{Plain}
use Rattle.bench_model.specs.declared.reading.Body.{Body}
use Rattle.bench_model.specs.declared.reading.Body.TheVariants as body
use Rattle.bench_model.specs.declared.reading.Reading.{Reading}
use Rattle.candump_log.specs.declared.log_line.LogLine.{LogLine}
use Rattle.candump_log.specs.declared.log_line.LogLine.TheVariants as line
use Rattle.j1939_tp.specs.Frames.{Frame, frame}
use Rattle.j1939_tp.specs.OpenSessions.{answer_at}
use Rattle.j1939_tp.specs.declared.out.TpOut.{TpOut}
use Rattle.j1939_tp.specs.declared.out.TpOut.TheVariants.{Nothing, Whole, Cut}

-- what bytes mean on a bus, whatever decides it: a version of its databases, or words that encode one
abbrev pub Meaning : Type 0
Meaning = Ask → List ℕ → Option Plain

-- the record of a frame that means this
abbrev pub frame_body : Key → List ℕ → Option Plain → Body
frame_body key bytes (Some plain) = body.Message plain.name plain.signals
frame_body key bytes None = body.Unmatched key bytes

-- what a line's own record says
abbrev pub own_body : Meaning → LogLine → Body
own_body meaning (line.Frame micros key bytes) = frame_body key bytes (meaning (ask.Frame key) bytes)
own_body meaning (line.Remote micros key) = body.Remote key
own_body meaning (line.Error micros id) = body.Error id
own_body meaning line.Bad = body.Bad

-- the record of a message of several packets that means this
abbrev pub message_body : ℕ → ℕ → ℕ → List ℕ → Option Plain → Body
message_body pgn sa da bytes (Some plain) = body.Transport pgn sa da bytes (Some plain.name) plain.signals
message_body pgn sa da bytes None = body.Transport pgn sa da bytes None []

-- what the transport protocol brings at a line, as records
abbrev pub transport_bodies : Meaning → TpOut → List Body
transport_bodies meaning Nothing = []
transport_bodies meaning (Whole pgn sa da bytes) = message_body pgn sa da bytes (meaning (ask.Group pgn) bytes) ∷ []
transport_bodies meaning (Cut pgn sa da cause) = body.Cut pgn sa da cause ∷ []

-- the frames of a line that a listener of a J1939 bus hears: those of data with a 29-bit identifier
abbrev pub heard_at : LogLine → List Frame
heard_at (line.Frame micros key bytes) = if key.extended then frame micros key.id bytes ∷ [] else []
heard_at (line.Remote micros key) = []
heard_at (line.Error micros id) = []
heard_at line.Bad = []

-- the frames that were heard in these lines
abbrev pub heard : List LogLine → List Frame
heard lines = flat_map heard_at lines

-- what the protocol brings at the frames of a line after these
abbrev pub brought : List Frame → List Frame → TpOut
brought before [] = Nothing
brought before (f ∷ fs) = answer_at before f

-- the same on a bus of this kind: other buses have no transport protocol
abbrev pub brought_on : Kind → List LogLine → LogLine → TpOut
brought_on kind.J1939 before l = brought (heard before) (heard_at l)
brought_on kind.Can before l = Nothing
brought_on kind.Lin before l = Nothing

-- microseconds since the log's epoch, 0 for a bad line
abbrev pub stamp_of : LogLine → ℕ
stamp_of (line.Frame micros key bytes) = micros
stamp_of (line.Remote micros key) = micros
stamp_of (line.Error micros id) = micros
stamp_of line.Bad = 0

-- the bus, and the version of its databases under which a line is decoded
pub record Place : Type 0 where
  pub bus : ℕ
  pub version : ℕ

abbrev pub record_of : Place → ℕ → ℕ × Body → Reading
record_of place micros x =
    record { bus = place.bus; number = x.0; version = place.version; micros = micros; body = x.1 }

-- a line's own record, which has this number
abbrev pub own_record : Meaning → Place → ℕ → LogLine → Reading
own_record meaning place number l = record_of place (stamp_of l) (number, own_body meaning l)

-- the records of a line after these, numbered from this number on
abbrev pub records_at : Meaning → Kind → Place → List LogLine → ℕ → LogLine → List Reading
records_at meaning k place before number l =
    map (record_of place (stamp_of l)) (enumerate_from number (own_body meaning l ∷ transport_bodies meaning (brought_on k before l)))
