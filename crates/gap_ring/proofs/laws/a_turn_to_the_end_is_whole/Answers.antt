use Rattle.gap_ring.proofs.laws.a_turn_to_the_end_is_whole.Goals as goal
use Rattle.gap_ring.proofs.TurnLaws.{started, unstarted}

pub returns : goal.returns
returns c = record { started = started; unstarted = unstarted }
