use Rattle.std.proofs.Common.{take}
use Rattle.std.specs.List.{flat_map}
use Rattle.ldf_grammar.specs.Gather.{signals_in}
use Rattle.ldf_grammar.specs.Lookup.{HasFirsts}
use Rattle.ldf_grammar.proofs.lookups.signal_lines.Given as goal

abbrev pub invariant-loop-statement : goal.invariant-loop-statement
invariant-loop-statement l = HasFirsts l.firsts (flat_map (signals_in l.bytes) (take l.statement-index l.statements))
