use Rattle.gap_ring.proofs.laws.what_was_given_is_a_prefix_of_its_group.Goals as goal
use Rattle.gap_ring.proofs.PrefixLaws.{part_given}

pub returns : goal.returns
returns c = part_given
