use Rattle.std.proofs.Common.{arith}
use Rattle.image_compiler.proofs.WritingLaws.{total_more, total_none, all_more, all_none}
use Rattle.image_compiler.proofs.parts.total.Goals as goal

pub loop-row-preserved : goal.loop-row-preserved
loop-row-preserved g c =
    let step = total_more g.T.Parts.behind c.args.rows.now c.loop-row.row-index c.row-item.result c.loop-row-test.true c.row-item.is in
    record {
      size = omega (arith, step, c.loop-row.invariant.size, c.in_ok-behind.ensures.size, c.in_ok-size.ensures);
      typed = λ rest. c.loop-row.invariant.typed (all_more g.T.Parts.is_typed c.args.rows.now c.loop-row.row-index c.row-item.result c.loop-row-test.true c.row-item.is c.in_ok-behind.ensures.typed rest);
    }

pub returns-clause-size : goal.returns-clause-size
returns-clause-size g c = omega (arith, c.loop-row.invariant.size, total_none g.T.Parts.behind c.args.rows.now c.loop-row.row-index c.loop-row-test.false)

pub returns-clause-typed : goal.returns-clause-typed
returns-clause-typed g c = c.loop-row.invariant.typed (all_none g.T.Parts.is_typed c.args.rows.now c.loop-row.row-index c.loop-row-test.false)
