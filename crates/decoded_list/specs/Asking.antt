-- What a line and a message of several packets ask of the databases, and that this is said to it.
use Rattle.std.specs.Prelude.{◌≡◌, Option}
use Rattle.bench_model.specs.declared.reading.Ask.TheVariants as ask
use Rattle.bench_model.specs.declared.reading.Plain.{Plain}
use Rattle.candump_log.specs.declared.log_line.LogLine.{LogLine}
use Rattle.candump_log.specs.declared.log_line.LogLine.TheVariants as line
use Rattle.j1939_tp.specs.declared.out.TpOut.{TpOut}
use Rattle.j1939_tp.specs.declared.out.TpOut.TheVariants.{Nothing, Whole, Cut}
use Rattle.decoded_list.specs.Records.{Meaning}

-- a frame of data asks for its message, and no other line asks for anything
abbrev pub IsSaidOf : Meaning → LogLine → Option Plain → Type 0
IsSaidOf meaning (line.Frame micros key bytes) said = said ≡ meaning (ask.Frame key) bytes
IsSaidOf meaning (line.Remote micros key) said = Unit {0}
IsSaidOf meaning (line.Error micros id) said = Unit {0}
IsSaidOf meaning line.Bad said = Unit {0}

-- a message that came whole asks for that of its parameter group, and nothing else does
abbrev pub IsSaidOfMessage : Meaning → TpOut → Option Plain → Type 0
IsSaidOfMessage meaning Nothing said = Unit {0}
IsSaidOfMessage meaning (Whole pgn sa da bytes) said = said ≡ meaning (ask.Group pgn) bytes
IsSaidOfMessage meaning (Cut pgn sa da cause) said = Unit {0}
