use Rattle.exact_scale.proofs.SignificandLaws.{none_yet, both_read}
use Rattle.exact_scale.proofs.significand.Significand.of.Goals as goal

pub returns-clause-number : goal.returns-clause-number
returns-clause-number c = both_read c.args.whole.now c.args.fraction.now c.extend-2.result.size c.extend-2.result.zeros
    (c.extend-2.ensures.number _ (c.extend.ensures.number 0 none_yet))
