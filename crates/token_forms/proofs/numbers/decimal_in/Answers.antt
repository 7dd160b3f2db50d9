use Rattle.std.proofs.Common.{rules, subst}
use Rattle.exact_scale.specs.Limits.{IsTooWide}
use Rattle.token_forms.proofs.numbers.decimal_in.Goals as goal

pub returns-in-Err-Form-clause-wide : goal.returns-in-Err-Form-clause-wide
returns-in-Err-Form-clause-wide c =
    let none = c.in-Err-Form.ensures.form.0 (search rules) in λ num k denotes. absurd (none (denotes.numeral, denotes.written_so))

pub returns-in-Err-Wide-clause-wide : goal.returns-in-Err-Wide-clause-wide
returns-in-Err-Wide-clause-wide c =
    let wide = c.in-Err-Wide.ensures.wide.0 (search rules) in
    λ num k denotes.
    let same = c.decimal_is_unique.ensures c.args.text.now wide.num num wide.places k wide.denotes denotes in
    subst (λ n. IsTooWide n k) same.0 (subst (λ j. IsTooWide wide.num j) same.1 wide.wide)
