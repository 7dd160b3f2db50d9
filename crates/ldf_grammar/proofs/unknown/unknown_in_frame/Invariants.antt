use Rattle.std.proofs.Common.{◌≡◌, drop}
use Rattle.ldf_grammar.specs.Gather.{Definitions}
use Rattle.ldf_grammar.specs.Unknown.{first_place, unknown_signal}
use Rattle.ldf_grammar.specs.Lookup.{HasDefinitions}
use Rattle.ldf_grammar.proofs.unknown.unknown_in_frame.Given as goal

-- the first unknown name of all is that of those that are left
abbrev pub invariant-loop-signal : goal.invariant-loop-signal
invariant-loop-signal l = (d : Definitions) → HasDefinitions l.lookups d → first_place (unknown_signal l.bytes d) (drop l.signal-index l.signal-items) ≡ first_place (unknown_signal l.bytes d) l.signal-items
