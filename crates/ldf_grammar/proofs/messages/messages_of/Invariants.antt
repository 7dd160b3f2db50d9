use Rattle.std.proofs.Common.{◌≡◌, take}
use Rattle.std.specs.List.{flat_map}
use Rattle.ldf_grammar.specs.Gather.{Definitions, messages_in}
use Rattle.ldf_grammar.specs.Lookup.{HasDefinitions}
use Rattle.ldf_grammar.proofs.messages.messages_of.Given as goal

abbrev pub invariant-loop-statement : goal.invariant-loop-statement
invariant-loop-statement l = (d : Definitions) → HasDefinitions l.lookups d → l.messages.items ≡ flat_map (messages_in l.bytes d) (take l.statement-index l.statements)
