use Rattle.std.proofs.Common.{◌^◌, ◌-◌, ◌≤◌, arith}
use Rattle.exact_scale.proofs.PowerLaws.{at_most_30}
use Rattle.exact_scale.proofs.scaling.numerator_over.Goals as goal

pub pow-unit-requires : goal.pow-unit-requires
pow-unit-requires c =
    let few : 10 ^ (c.args.to - c.args.decimal.k) ≤ 10 ^ 30 = at_most_30 (c.args.to - c.args.decimal.k) (omega arith) in
    record { sfits = omega arith }
