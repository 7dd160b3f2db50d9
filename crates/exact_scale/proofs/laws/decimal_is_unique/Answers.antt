use Rattle.exact_scale.proofs.ReadLaws.{denotes_once}
use Rattle.exact_scale.proofs.laws.decimal_is_unique.Goals as goal

pub returns : goal.returns
returns c = denotes_once
