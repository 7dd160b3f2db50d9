use Rattle.std.proofs.Common.{◌++◌, ap, ◌∙◌, arith}
use Rattle.exact_scale.proofs.DigitLaws.{decimal_same}
use Rattle.exact_scale.proofs.digits.push_number.Goals as goal

pub returns-clause-ok : goal.returns-clause-ok
returns-clause-ok c =
    let digits = c.as_bytes.ensures.value ∙ c.format.ensures.text ∙ decimal_same c.args.number (omega arith) in
    c.in_ok-extend_from_slice.ensures.items ∙ ap (λ l. c.args.out.now.items ++ l) digits
