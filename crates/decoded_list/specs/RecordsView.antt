-- The records of a line, as a list; and which lines are frames.
use Rattle.std.specs.Prelude.{◌≡◌, List, [], ◌∷◌, Option, Some, None}
use Rattle.bench_model.specs.declared.database.Kind.{Kind}
use Rattle.bench_model.specs.declared.database.Kind.TheVariants as kind
use Rattle.bench_model.specs.declared.reading.Reading.{Reading}
use Rattle.candump_log.specs.declared.log_line.LogLine.{LogLine}
use Rattle.candump_log.specs.declared.log_line.LogLine.TheVariants as line
use Rattle.j1939_tp.specs.Frames.{Frame, role, opens}
use Rattle.decoded_list.specs.Records.{heard_at}
use Rattle.decoded_list.specs.declared.decoder.Records.{Records}

abbrev pub one_or_none : {X : Type 0} → Option X → List X
one_or_none None = []
one_or_none (Some x) = x ∷ []

abbrev pub record_list : Records → List Reading
record_list r = r.own ∷ one_or_none r.transported

-- a line that is a frame of data
abbrev pub IsFrame : LogLine → Type 0
IsFrame (line.Frame micros key bytes) = Unit {0}
IsFrame (line.Remote micros key) = ⊥
IsFrame (line.Error micros id) = ⊥
IsFrame line.Bad = ⊥

-- a line of a J1939 bus whose frame begins a message of several packets
abbrev pub BeginsMessage : Kind → LogLine → Type 0
BeginsMessage kind.J1939 l = (f : Frame) × (heard_at l ≡ f ∷ []) × (role f ≡ opens)
BeginsMessage kind.Can l = ⊥
BeginsMessage kind.Lin l = ⊥
