use Rattle.std.proofs.Common.{◌≡◌, drop}
use Rattle.ldf_grammar.specs.Gather.{Definitions}
use Rattle.ldf_grammar.specs.Unknown.{first_place, unknown_in}
use Rattle.ldf_grammar.specs.Lookup.{HasDefinitions}
use Rattle.ldf_grammar.proofs.unknown.check_names.Given as goal

-- the first unknown name of all is that of those that are left
abbrev pub invariant-loop-statement : goal.invariant-loop-statement
invariant-loop-statement l = (d : Definitions) → HasDefinitions l.lookups d → first_place (unknown_in l.bytes d) (drop l.statement-index l.statements) ≡ first_place (unknown_in l.bytes d) l.statements
