use Rattle.std.proofs.Common.{◌≡◌, arith, subst, IfErr}
use Rattle.std.proofs.lemmas.Grind.{common_steps}
use Rattle.token_forms.specs.Numbers.{signed_text}
use Rattle.token_forms.specs.Outcomes.{IsNoDecimal}
use Rattle.token_forms.proofs.numbers.decimal_of.Goals as goal

pub returns-in-None-clause-wide : goal.returns-in-None-clause-wide
returns-in-None-clause-wide c =
    let same : c.token_text-digits.result.now ≡ signed_text c.args.bytes.now c.args.number = grind (arith, common_steps) in
    subst (λ t. IfErr c.decimal_in.result (IsNoDecimal t)) same c.decimal_in.ensures.wide

pub returns-in_ok-text-in-Some-clause-wide : goal.returns-in_ok-text-in-Some-clause-wide
returns-in_ok-text-in-Some-clause-wide c =
    let same : c.deref.result.now ≡ signed_text c.args.bytes.now c.args.number = grind (arith, common_steps) in
    subst (λ t. IfErr c.decimal_in-in-Some.result (IsNoDecimal t)) same c.decimal_in-in-Some.ensures.wide
