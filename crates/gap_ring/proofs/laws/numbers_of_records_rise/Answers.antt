use Rattle.gap_ring.proofs.laws.numbers_of_records_rise.Goals as goal
use Rattle.gap_ring.proofs.ReadingLaws.{records_put, records_rise}

pub returns : goal.returns
returns c = record { records = records_put; rise = records_rise }
