use Rattle.std.proofs.Common.{take}
use Rattle.std.specs.List.{AllZip}
use Rattle.ldf_grammar.specs.Scaling.{IsEntryOf}
use Rattle.ldf_grammar.proofs.encodings.encode.Given as goal

abbrev pub invariant-loop-entry : goal.invariant-loop-entry
invariant-loop-entry l = AllZip (IsEntryOf l.bytes) (take l.entry-index l.entry-items) l.entries.items
