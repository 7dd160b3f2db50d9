use Rattle.std.proofs.Common.{sym, arith}
use Rattle.std.proofs.Math.Nat.{div-eq_of_lt, mod-eq_of_lt}
use Rattle.exact_scale.proofs.PowerLaws.{ten_pos, ten_le}
use Rattle.exact_scale.proofs.printing.small_at_point.Goals as goal

pub pow-unit-requires : goal.pow-unit-requires
pow-unit-requires c = omega (arith, ten_le c.args.places 19 (omega arith))

pub nonzero_div-result : goal.nonzero_div-result
nonzero_div-result c = omega (arith, c.pow-unit.ensures, ten_pos c.args.places)

pub nonzero_rem-result : goal.nonzero_rem-result
nonzero_rem-result c = omega (arith, c.pow-unit.ensures, ten_pos c.args.places)

pub returns-else-places-lt-MOST_SMALL_DIGITS-clause-whole : goal.returns-else-places-lt-MOST_SMALL_DIGITS-clause-whole
returns-else-places-lt-MOST_SMALL_DIGITS-clause-whole c = sym (div-eq_of_lt (omega (arith, ten_le 20 c.args.places (omega arith))))

pub returns-else-places-lt-MOST_SMALL_DIGITS-clause-rest : goal.returns-else-places-lt-MOST_SMALL_DIGITS-clause-rest
returns-else-places-lt-MOST_SMALL_DIGITS-clause-rest c = sym (mod-eq_of_lt (omega (arith, ten_le 20 c.args.places (omega arith))))
