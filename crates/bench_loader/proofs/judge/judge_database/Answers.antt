use Rattle.bench_loader.proofs.FileLaws.{database_answered, fault_answered}
use Rattle.bench_loader.proofs.judge.judge_database.Goals as goal

pub returns-clause-every_database : goal.returns-clause-every_database
returns-clause-every_database c =
    database_answered c.one_judgement_of_a_file.ensures c.args.kind c.args.file.now c.judge_file-judged.result c.judge_file-judged.ensures

pub returns-clause-every_fault : goal.returns-clause-every_fault
returns-clause-every_fault c =
    fault_answered c.one_judgement_of_a_file.ensures c.args.kind c.args.file.now c.judge_file-judged.result c.judge_file-judged.ensures
