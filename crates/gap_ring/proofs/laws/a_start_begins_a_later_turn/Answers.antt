use Rattle.gap_ring.proofs.laws.a_start_begins_a_later_turn.Goals as goal
use Rattle.gap_ring.proofs.LeadLaws.{start_begins}

pub returns : goal.returns
returns c = start_begins
