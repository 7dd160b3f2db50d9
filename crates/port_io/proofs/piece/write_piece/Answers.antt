use Rattle.std.proofs.Common.{◌<◌, length, ◌∙◌, arith}
use Rattle.std.proofs.lemmas.Result.{err_from_is_err_and}
use Rattle.port_io.proofs.PieceLaws.{done_more, done_in_part}
use Rattle.port_io.proofs.piece.write_piece.Goals as goal

pub loop-rest-preserved : goal.loop-rest-preserved
loop-rest-preserved g c = record {
  parted = done_more c.args.piece.now _ c.loop-rest.rest.now c.in_ok-count.count _ _ _ c.loop-rest.invariant.parted.1 c.loop-rest.invariant.parted.2 c.in_ok-count.ensures.written;
  other = c.in_ok-count.ensures.other ∙ c.loop-rest.invariant.other;
  later = omega (arith, c.in_ok-count.ensures.cause.later);
}

pub returns-in_err-count-clause-written : goal.returns-in_err-count-clause-written
returns-in_err-count-clause-written g c =
    let some_left : 0 < length c.loop-rest.rest.now = grind (arith, c.loop-rest-test.true, c.is_empty.ensures) in
    let is_err = err_from_is_err_and c.from_residual.result c.from_residual.ensures.1 in
    rw is_err.1 (done_in_part c.args.piece.now _ c.loop-rest.rest.now _ _ c.loop-rest.invariant.parted.1 some_left (c.in_err-count.ensures.written ∙ c.loop-rest.invariant.parted.2))
