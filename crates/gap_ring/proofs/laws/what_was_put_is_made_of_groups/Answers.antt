use Rattle.gap_ring.proofs.laws.what_was_put_is_made_of_groups.Goals as goal
use Rattle.gap_ring.proofs.GroupLaws.{put_in_groups}
use Rattle.gap_ring.proofs.OneLaws.{one_grouping}
use Rattle.gap_ring.proofs.TurnLaws.{turns_bounded}

pub returns : goal.returns
returns c = record { some = put_in_groups; one = one_grouping; turns = turns_bounded }
