use Rattle.std.proofs.Common.{◌≡◌, ◌++◌, take, map}
use Rattle.ldf_grammar.specs.Gather.{Definitions, message_of}
use Rattle.ldf_grammar.specs.Lookup.{HasDefinitions}
use Rattle.ldf_grammar.proofs.messages.add_messages.Given as goal

abbrev pub invariant-loop-frame : goal.invariant-loop-frame
invariant-loop-frame l = (d : Definitions) → HasDefinitions l.lookups d → l.messages.items ≡ l.initial.messages.items ++ map (message_of l.bytes d) (take l.frame-index l.frames)
