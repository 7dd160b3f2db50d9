use Rattle.std.proofs.Common.{◌≡◌, drop}
use Rattle.ldf_grammar.specs.Gather.{Definitions}
use Rattle.ldf_grammar.specs.Unknown.{first_place, unknown_encoding}
use Rattle.ldf_grammar.specs.Lookup.{HasDefinitions}
use Rattle.ldf_grammar.proofs.unknown.unknown_in_lines.Given as goal

-- the first unknown name of all is that of those that are left
abbrev pub invariant-loop-line : goal.invariant-loop-line
invariant-loop-line l = (d : Definitions) → HasDefinitions l.lookups d → first_place (unknown_encoding l.bytes d) (drop l.line-index l.lines) ≡ first_place (unknown_encoding l.bytes d) l.lines
