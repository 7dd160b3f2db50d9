use Rattle.gap_ring.proofs.laws.a_refusal_is_counted_once.Goals as goal
use Rattle.gap_ring.proofs.CountLaws.{counted, uncounted, away, nothing_else, put_closes}

pub returns : goal.returns
returns c = record { counted = counted; uncounted = uncounted; away = away; nothing_else = nothing_else; put = put_closes }
