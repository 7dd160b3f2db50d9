use Rattle.bench_loader.proofs.DueLaws.{one_due, due_given}
use Rattle.bench_loader.proofs.SomeDueLaws.{some_due, none_due}
use Rattle.bench_loader.proofs.command_laws.one_due_reply.Goals as goal

pub returns-clause-one : goal.returns-clause-one
returns-clause-one c = one_due c.one_reading_of_a_database.ensures c.one_judgement_of_a_file.ensures

pub returns-clause-given : goal.returns-clause-given
returns-clause-given c = due_given c.one_reading_of_a_database.ensures c.one_judgement_of_a_file.ensures

pub returns-clause-some : goal.returns-clause-some
returns-clause-some c = some_due c.one_reading_of_a_database.ensures c.one_judgement_of_a_file.ensures

pub returns-clause-never_both : goal.returns-clause-never_both
returns-clause-never_both c = none_due c.one_reading_of_a_database.ensures c.one_judgement_of_a_file.ensures
