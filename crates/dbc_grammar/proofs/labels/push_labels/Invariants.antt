use Rattle.std.proofs.Common.{◌≡◌, ◌++◌, take}
use Rattle.std.specs.List.{flat_map}
use Rattle.dbc_grammar.specs.Gather.{labels_of_text}
use Rattle.dbc_grammar.proofs.labels.push_labels.Given as goal

-- the labels of the texts so far were appended
abbrev pub invariant-loop-value : goal.invariant-loop-value
invariant-loop-value l = l.labels.items ≡ l.fn.labels.items ++ flat_map (labels_of_text l.bytes l.utf8) (take l.value-index l.texts)
