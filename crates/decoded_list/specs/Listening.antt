-- What a listener has heard when a bus of this kind has given these lines: a J1939 bus alone has one to hear its frames.
use Rattle.std.specs.Prelude.{List}
use Rattle.bench_model.specs.declared.database.Kind.{Kind}
use Rattle.bench_model.specs.declared.database.Kind.TheVariants as kind
use Rattle.candump_log.specs.declared.log_line.LogLine.{LogLine}
use Rattle.j1939_tp.specs.declared.listener.Listener.{Listener}
use Rattle.j1939_tp.specs.Keeping.{HasHeard}
use Rattle.decoded_list.specs.declared.decoder.BusDecoder.{BusDecoder}
use Rattle.decoded_list.specs.Records.{heard}

abbrev pub Listens : Kind → Listener → List LogLine → Type 0
Listens kind.J1939 listener lines = HasHeard listener (heard lines)
Listens kind.Can listener lines = Unit {0}
Listens kind.Lin listener lines = Unit {0}

-- the decoder has taken these lines of its bus
abbrev pub HasTaken : BusDecoder → List LogLine → Type 0
HasTaken decoder lines = Listens decoder.kind decoder.listener lines
