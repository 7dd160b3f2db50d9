use Rattle.bench_loader.proofs.DueLaws.{one_published}
use Rattle.bench_loader.proofs.command_laws.one_list_is_published.Goals as goal

pub returns : goal.returns
returns c = one_published c.one_reading_of_a_database.ensures c.one_judgement_of_a_file.ensures
