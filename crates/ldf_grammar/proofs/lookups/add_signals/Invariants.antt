use Rattle.std.proofs.Common.{take, map}
use Rattle.ldf_grammar.specs.Gather.{named_line}
use Rattle.ldf_grammar.specs.Lookup.{Adds}
use Rattle.ldf_grammar.proofs.lookups.add_signals.Given as goal

abbrev pub invariant-loop-line : goal.invariant-loop-line
invariant-loop-line l = Adds l.initial.firsts l.firsts (map (named_line l.bytes) (take l.line-index l.lines))
