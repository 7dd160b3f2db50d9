use Rattle.std.proofs.Common.{◌≡◌, ◌++◌, drop}
use Rattle.image_compiler.specs.Layout.{rows_from}
use Rattle.image_compiler.proofs.parts.write_rows.Given as goal

abbrev pub invariant-loop-row : goal.invariant-loop-row
invariant-loop-row g l =
    l.out.items ++ rows_from g.T.Row.row_words g.T.Parts.behind l.place (drop l.row-index l.rows)
    ≡ l.fn.out.items ++ rows_from g.T.Row.row_words g.T.Parts.behind l.first l.rows
