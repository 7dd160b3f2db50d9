use Rattle.std.proofs.Common.{◌≡◌, take}
use Rattle.std.specs.List.{flat_map}
use Rattle.ldf_grammar.specs.Gather.{Definitions, signal_in}
use Rattle.ldf_grammar.specs.Lookup.{HasDefinitions}
use Rattle.ldf_grammar.proofs.messages.signals_of.Given as goal

abbrev pub invariant-loop-signal : goal.invariant-loop-signal
invariant-loop-signal l = (d : Definitions) → HasDefinitions l.lookups d → l.signals.items ≡ flat_map (signal_in l.bytes d) (take l.signal-index l.signal-items)
