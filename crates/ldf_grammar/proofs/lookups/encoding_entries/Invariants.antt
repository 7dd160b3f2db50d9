use Rattle.std.proofs.Common.{take, map}
use Rattle.ldf_grammar.specs.Lookup.{HasLent, pair_of}
use Rattle.ldf_grammar.proofs.lookups.encoding_entries.Given as goal

abbrev pub invariant-loop-encoding : goal.invariant-loop-encoding
invariant-loop-encoding l = HasLent l.firsts (map (pair_of l.bytes) (take l.encoding-index l.encodings))
