use Rattle.std.proofs.Common.{◌-◌, arith}
use Rattle.exact_scale.proofs.PowerLaws.{zero_dropped}
use Rattle.exact_scale.proofs.printing.+without_last_zeros.Goals as goal

pub returns-in-Err-clause-same : goal.returns-in-Err-clause-same
returns-in-Err-clause-same t c =
    let shorter = c.without_last_zeros.ensures.shorter in
    zero_dropped c.args.size c.without_last_zeros.result.0 (c.args.places - 1 - c.without_last_zeros.result.1)
    (c.args.places - c.without_last_zeros.result.1) c.if-size-eq0.true c.without_last_zeros.ensures.same (omega arith)
