use Rattle.std.proofs.Common.{◌≡◌, ◌++◌, [], take}
use Rattle.std.specs.List.{flat_map}
use Rattle.std.specs.Borrow.{Bor}
use Rattle.dbc_grammar.specs.declared.statement.Note.{Note}
use Rattle.dbc_grammar.specs.Gather.{labels_in}
use Rattle.dbc_grammar.proofs.labels.labels_of.Given as goal

-- the labels of the notes so far
abbrev pub invariant-loop-note : goal.invariant-loop-note
invariant-loop-note l = l.labels.items ≡ [] ++ flat_map (λ (n : Bor Note). labels_in l.bytes l.utf8 n.now) (take l.note-index l.notes)
