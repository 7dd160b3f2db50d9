use Rattle.std.proofs.Common.{take}
use Rattle.std.specs.List.{flat_map}
use Rattle.ldf_grammar.specs.Gather.{stated_by}
use Rattle.ldf_grammar.specs.Lookup.{Adds}
use Rattle.ldf_grammar.proofs.lookups.add_representations.Given as goal

abbrev pub invariant-loop-line : goal.invariant-loop-line
invariant-loop-line l = Adds l.initial.firsts l.firsts (flat_map (stated_by l.bytes) (take l.line-index l.lines))
