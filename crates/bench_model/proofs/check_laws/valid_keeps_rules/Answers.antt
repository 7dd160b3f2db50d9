use Rattle.bench_model.proofs.RuleLaws.{valid_keeps, valid_from_rules}
use Rattle.bench_model.proofs.check_laws.valid_keeps_rules.Goals as goal

pub returns-clause-keeps : goal.returns-clause-keeps
returns-clause-keeps c = valid_keeps

pub returns-clause-valid : goal.returns-clause-valid
returns-clause-valid c = valid_from_rules
