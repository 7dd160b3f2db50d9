use Rattle.std.proofs.Common.{take, map, ◌∷◌}
use Rattle.ldf_grammar.specs.Gather.{stated}
use Rattle.ldf_grammar.specs.Lookup.{Adds}
use Rattle.ldf_grammar.proofs.lookups.add_represented.Given as goal

abbrev pub invariant-loop-signal : goal.invariant-loop-signal
invariant-loop-signal l = Adds l.fn.firsts l.firsts (map (stated l.bytes l.line.encoding) (l.line.first ∷ take l.signal-index l.signal-items))
