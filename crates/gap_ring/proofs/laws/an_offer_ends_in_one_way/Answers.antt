use Rattle.gap_ring.proofs.laws.an_offer_ends_in_one_way.Goals as goal
use Rattle.gap_ring.proofs.OneLaws.{some_end, some_end_away, one_end}

pub returns : goal.returns
returns c = record { attached = some_end; detached = some_end_away; one = one_end }
