use Rattle.bench_server.proofs.PieceLaws.{sent_more, sent_part, sent_cut, rose_since}
use Rattle.bench_server.proofs.pieces.write_pieces.Goals as goal

pub returns-in_err-write_piece : goal.returns-in_err-write_piece
returns-in_err-write_piece g c =
    let cut = c.in_err-write_piece.ensures.written in
    let cause = c.in_err-write_piece.ensures.cause in
    record {
      text = sent_cut _ _ _ c.from_residual.result c.from_residual.ensures.0
          (sent_part _ _ _ c.args.pieces.now c.loop-piece.piece-index _ c.loop-piece-test.true c.loop-piece.invariant cut.0 cut.2 cause.failed cause.later)
          (rose_since _ _ _ c.loop-piece.invariant.later cause.failed);
    }

pub loop-piece-preserved : goal.loop-piece-preserved
loop-piece-preserved g c =
    sent_more _ _ _ c.args.pieces.now c.loop-piece.piece-index _ c.loop-piece-test.true c.loop-piece.invariant c.in_ok-write_piece.ensures.written c.in_ok-write_piece.ensures.cause.later
