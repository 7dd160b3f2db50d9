use Rattle.std.proofs.Common.{◌∙◌, arith}
use Rattle.bus_text.proofs.BufferLaws.{prefix_more}
use Rattle.bus_text.proofs.buffer.write_prefix.Goals as goal

pub pieces-preserved : goal.pieces-preserved
pieces-preserved g c =
    let e = c.in-Ok.ensures in
    let i = c.pieces.invariant in
    let more = prefix_more c.args.text.now c.pieces.count c.in-Ok.more _ _ _ c.pieces-test.true e.count.1 i.written e.written in
    record { within = more.0; written = more.1; other = e.other ∙ i.other; later = omega (arith, i.later, e.cause.later) }
