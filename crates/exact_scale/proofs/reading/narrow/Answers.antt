use Rattle.std.proofs.Common.{ℤ, ◌∙◌, sym, subst, rules, arith}
use Rattle.std.specs.Prelude.{FitsSigned}
use Rattle.std.specs.Int.{w128}
use Rattle.std.proofs.lemmas.Int.{to_z-of_z}
use Rattle.exact_scale.specs.Numeral.{Denotes}
use Rattle.exact_scale.proofs.ReadLaws.{parts_move, parts_denote, parts_wide}
use Rattle.exact_scale.proofs.reading.narrow.Goals as goal

pub returns-in-None-clause-none : goal.returns-in-None-clause-none
returns-in-None-clause-none c = λ text p.
    let parts = c.args.parts.now in
    let s = c.of-significand.ensures.number in
    parts_wide text parts.whole.now parts.fraction.now parts.negative parts.exponent.raised parts.exponent.lowered c.of-significand.result.size c.of-significand.result.zeros p s
    (c.in-None.ensures.none s.short _ _
    (parts_move text parts.whole.now parts.fraction.now parts.negative parts.exponent.raised parts.exponent.lowered c.of-significand.result.size c.of-significand.result.zeros _ _ p s
    (omega arith) (omega arith) c.saturating_sub.ensures c.saturating_sub-2.ensures))

pub returns-in-Some-clause-some : goal.returns-in-Some-clause-some
returns-in-Some-clause-some c = λ text p.
    let parts = c.args.parts.now in
    let s = c.of-significand.ensures.number in
    let fits : FitsSigned w128 c.with_sign.result = search rules in
    let num = c.with_sign.ensures in
    let d = parts_denote text parts.whole.now parts.fraction.now parts.negative parts.exponent.raised parts.exponent.lowered c.of-significand.result.size c.of-significand.result.zeros c.in-Some.size c.in-Some.k p s
    (c.in-Some.ensures.some s.short _ _
    (parts_move text parts.whole.now parts.fraction.now parts.negative parts.exponent.raised parts.exponent.lowered c.of-significand.result.size c.of-significand.result.zeros _ _ p s
    (omega arith) (omega arith) c.saturating_sub.ensures c.saturating_sub-2.ensures)) in
    subst (λ (n : ℤ). Denotes text n c.in-Some.k) (sym (to_z-of_z w128 c.with_sign.result fits ∙ num)) d
