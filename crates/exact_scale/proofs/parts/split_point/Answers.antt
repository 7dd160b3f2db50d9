use Rattle.std.proofs.Common.{◌≡◌, get_or, arith}
use Rattle.exact_scale.proofs.PartsLaws.{first_byte, point_taken}
use Rattle.exact_scale.proofs.parts.split_point.Goals as goal

pub returns-in-46 : goal.returns-in-46
returns-in-46 c =
    let point : get_or c.args.text.now 0 0 ≡ 46 = omega arith in
    point_taken c.args.text.now _ _ _ (first_byte c.args.text.now 46 c.in-46.len_at_least point) c.split_digits.ensures
