use Rattle.std.proofs.Common.{◌<◌, arith, subst}
use Rattle.std.proofs.lemmas.List.{take_rest}
use Rattle.sig_text.specs.Prefixes.{IsLongestPrefix}
use Rattle.sig_text.specs.Lexemes.{IsMantissa, IsExponent}
use Rattle.sig_text.proofs.NumberLaws.{decimal_nothing, decimal_prefix}
use Rattle.sig_text.proofs.number.decimal_len.Goals as goal

pub returns-in-0 : goal.returns-in-0
returns-in-0 c = decimal_nothing c.args.text.now (subst (IsLongestPrefix IsMantissa c.args.text.now) c.in-0.is c.mantissa_len.ensures)

pub returns-in_default : goal.returns-in_default
returns-in_default c =
    let some : 0 < c.mantissa_len.result = grind arith in
    decimal_prefix c.args.text.now _ c.exponent_len.result some c.mantissa_len.ensures
    (subst (λ s. IsLongestPrefix IsExponent s c.exponent_len.result) (take_rest c.args.text.now c.mantissa_len.result) c.exponent_len.ensures)
