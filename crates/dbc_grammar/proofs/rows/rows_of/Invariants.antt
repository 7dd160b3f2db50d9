use Rattle.std.proofs.Common.{take}
use Rattle.std.specs.List.{enumerate_from, AllZip}
use Rattle.dbc_grammar.specs.Naming.{noted_in}
use Rattle.dbc_grammar.specs.Rows.{IsRowAt}
use Rattle.dbc_grammar.proofs.rows.rows_of.Given as goal

-- the rows so far
abbrev pub invariant-loop-place : goal.invariant-loop-place
invariant-loop-place l = AllZip (IsRowAt l.bytes l.utf8 (noted_in l.bytes l.notes) l.messages)
    (enumerate_from 0 (take l.place l.messages)) l.rows.items
