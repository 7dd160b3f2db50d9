use Rattle.std.proofs.Common.{◌≡◌, take, false}
use Rattle.dbc_grammar.specs.Gather.{float_after}
use Rattle.dbc_grammar.specs.Noted.{seen_notes}
use Rattle.dbc_grammar.proofs.labels.is_float.Given as goal

-- what the notes so far say
abbrev pub invariant-loop-note : goal.invariant-loop-note
invariant-loop-note l = l.float ≡ float_after false (seen_notes (take l.note-index l.notes))
