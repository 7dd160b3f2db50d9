use Rattle.gap_ring.proofs.laws.other_turns_give_nothing_to_this_one.Goals as goal
use Rattle.gap_ring.proofs.TurnLaws.{given_longer}

pub returns : goal.returns
returns c = given_longer
