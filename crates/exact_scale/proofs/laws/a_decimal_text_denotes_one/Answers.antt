use Rattle.exact_scale.proofs.ExistenceLaws.{decimal_or_none, denotes_some, narrow_or_none}
use Rattle.exact_scale.proofs.laws.a_decimal_text_denotes_one.Goals as goal

pub returns-clause-form : goal.returns-clause-form
returns-clause-form c = decimal_or_none

pub returns-clause-some : goal.returns-clause-some
returns-clause-some c = denotes_some

pub returns-clause-limits : goal.returns-clause-limits
returns-clause-limits c = narrow_or_none
