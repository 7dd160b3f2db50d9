use Rattle.bench_model.proofs.ValidLaws.{decodable}
use Rattle.bench_model.proofs.check_laws.valid_is_decodable.Goals as goal

pub returns : goal.returns
returns c = decodable
