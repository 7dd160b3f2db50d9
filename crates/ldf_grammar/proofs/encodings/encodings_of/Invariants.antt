use Rattle.std.proofs.Common.{take, map}
use Rattle.std.specs.List.{flat_map, AllZip}
use Rattle.ldf_grammar.specs.Gather.{IsCoded, encodings_in}
use Rattle.ldf_grammar.specs.Lookup.{pair_of}
use Rattle.ldf_grammar.proofs.encodings.encodings_of.Given as goal

abbrev pub invariant-loop-statement : goal.invariant-loop-statement
invariant-loop-statement l = AllZip (IsCoded l.bytes) (flat_map encodings_in (take l.statement-index l.statements)) (map (pair_of l.bytes) l.all.items)
