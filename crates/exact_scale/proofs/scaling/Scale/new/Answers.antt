use Rattle.std.proofs.Common.{◌≤◌, ℤ, sym, subst, ◌∙◌, rules, arith}
use Rattle.std.specs.Prelude.{FitsSigned}
use Rattle.std.specs.Int.{w128}
use Rattle.std.proofs.lemmas.Int.{to_z-of_z}
use Rattle.exact_scale.specs.Fraction.{IsSame, decimal_fraction}
use Rattle.exact_scale.proofs.SignLaws.{numerator_same}
use Rattle.exact_scale.proofs.scaling.Scale.new.Goals as goal

pub returns-clause-same_factor : goal.returns-clause-same_factor
returns-clause-same_factor c =
    let fits : FitsSigned w128 c.in_ok-factor.factor = search rules in
    let within : c.args.factor.k ≤ c.max-k.result = omega arith in
    subst (λ (n : ℤ). IsSame (decimal_fraction n c.max-k.result) (decimal_fraction c.args.factor.num c.args.factor.k))
    (sym (to_z-of_z w128 c.in_ok-factor.factor fits ∙ c.in_ok-factor.ensures.value))
    (numerator_same c.max-k.result c.args.factor.num c.args.factor.k within)

pub returns-clause-same_offset : goal.returns-clause-same_offset
returns-clause-same_offset c =
    let fits : FitsSigned w128 c.in_ok-offset.offset = search rules in
    let within : c.args.offset.k ≤ c.max-k.result = omega arith in
    subst (λ (n : ℤ). IsSame (decimal_fraction n c.max-k.result) (decimal_fraction c.args.offset.num c.args.offset.k))
    (sym (to_z-of_z w128 c.in_ok-offset.offset fits ∙ c.in_ok-offset.ensures.value))
    (numerator_same c.max-k.result c.args.offset.num c.args.offset.k within)
