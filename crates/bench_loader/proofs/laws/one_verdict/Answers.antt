use Rattle.bench_loader.proofs.VerdictLaws.{some_verdict, one_verdict}
use Rattle.bench_loader.proofs.laws.one_verdict.Goals as goal

pub returns-clause-some : goal.returns-clause-some
returns-clause-some c = some_verdict c.one_plan_or_one_fault.ensures c.one_reading_of_databases.ensures c.one_judgement.ensures

pub returns-clause-one : goal.returns-clause-one
returns-clause-one c = one_verdict c.one_plan_or_one_fault.ensures c.one_reading_of_databases.ensures c.one_judgement.ensures
