use Rattle.std.proofs.Common.{◌≡◌, ◌++◌, List, take, map}
use Rattle.std.specs.List.{AllZip}
use Rattle.ldf_grammar.specs.Gather.{IsCoded}
use Rattle.ldf_grammar.specs.Lookup.{pair_of}
use Rattle.ldf_grammar.specs.declared.encodings.Encoded.{Encoded}
use Rattle.ldf_grammar.proofs.encodings.add_encodings.Given as goal

abbrev pub invariant-loop-encoding : goal.invariant-loop-encoding
invariant-loop-encoding l = (added : List Encoded) × (l.all.items ≡ l.initial.all.items ++ added)
    × AllZip (IsCoded l.bytes) (take l.encoding-index l.encodings) (map (pair_of l.bytes) added)
