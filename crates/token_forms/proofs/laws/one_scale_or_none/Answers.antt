use Rattle.token_forms.proofs.ScaleLaws.{some_scale, scales_are_one}
use Rattle.token_forms.proofs.laws.one_scale_or_none.Goals as goal

pub returns-clause-some : goal.returns-clause-some
returns-clause-some c = some_scale c.decimal_is_unique.ensures c.a_decimal_text_denotes_one.ensures.limits

pub returns-clause-one : goal.returns-clause-one
returns-clause-one c = scales_are_one c.decimal_is_unique.ensures
