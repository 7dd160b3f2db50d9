use Rattle.std.proofs.Common.{◌∙◌, sym, arith}
use Rattle.image_compiler.proofs.WritingLaws.{rows_more, rows_none}
use Rattle.image_compiler.proofs.parts.write_rows.Goals as goal

pub loop-row-preserved : goal.loop-row-preserved
loop-row-preserved g c =
    sym (rows_more g.T.Row.row_words g.T.Parts.behind c.args.rows.now c.loop-row.row-index c.loop-row.place _ c.row-item.result c.loop-row.out.items c.write_row.new.out.items
    c.loop-row-test.true c.row-item.is c.in_ok-write_row.ensures (omega (arith, c.in_ok-place.ensures, c.in_ok-behind.ensures.size)))
    ∙ c.loop-row.invariant

pub returns : goal.returns
returns g c =
    rows_none g.T.Row.row_words g.T.Parts.behind c.args.rows.now c.loop-row.row-index c.loop-row.place c.loop-row.out.items c.loop-row-test.false ∙ c.loop-row.invariant
