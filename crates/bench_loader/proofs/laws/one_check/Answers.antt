use Rattle.bench_loader.proofs.CheckLaws.{some_check, one_check}
use Rattle.bench_loader.proofs.laws.one_check.Goals as goal

pub returns-clause-some : goal.returns-clause-some
returns-clause-some c = some_check c.one_reading_of_a_database.ensures c.one_judgement_of_a_file.ensures

pub returns-clause-one : goal.returns-clause-one
returns-clause-one c = one_check c.one_reading_of_a_database.ensures c.one_judgement_of_a_file.ensures
