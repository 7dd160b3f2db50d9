use Rattle.gap_ring.proofs.laws.the_first_turn_begins_at_the_first_record.Goals as goal
use Rattle.gap_ring.proofs.OneLaws.{first_start, first_turn}

pub returns : goal.returns
returns c = record { put = first_start; number = first_turn }
