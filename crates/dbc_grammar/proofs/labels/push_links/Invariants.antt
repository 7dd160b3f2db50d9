use Rattle.std.proofs.Common.{◌≡◌, ◌++◌, take}
use Rattle.std.specs.List.{flat_map}
use Rattle.std.specs.Borrow.{Bor}
use Rattle.dbc_grammar.specs.declared.statement.Note.{Note}
use Rattle.dbc_grammar.specs.Gather.{links_in}
use Rattle.dbc_grammar.specs.Places.{signal_place}
use Rattle.dbc_grammar.proofs.labels.push_links.Given as goal

-- the links of the notes so far were appended
abbrev pub invariant-loop-note : goal.invariant-loop-note
invariant-loop-note l = l.links.items ≡ l.fn.links.items
    ++ flat_map (λ (n : Bor Note). links_in l.bytes (signal_place l.places.places) l.child n.now) (take l.note-index l.notes)
