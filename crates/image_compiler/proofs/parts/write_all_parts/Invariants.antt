use Rattle.std.proofs.Common.{◌≡◌, ◌++◌, drop}
use Rattle.image_compiler.specs.Layout.{parts_from}
use Rattle.image_compiler.proofs.parts.write_all_parts.Given as goal

abbrev pub invariant-loop-row : goal.invariant-loop-row
invariant-loop-row g l =
    l.out.items ++ parts_from g.T.Parts.parts g.T.Parts.behind l.place (drop l.row-index l.rows)
    ≡ l.fn.out.items ++ parts_from g.T.Parts.parts g.T.Parts.behind l.first l.rows
