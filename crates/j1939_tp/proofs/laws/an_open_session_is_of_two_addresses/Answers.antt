use Rattle.j1939_tp.proofs.PlaceLaws.{pair_below}
use Rattle.j1939_tp.proofs.laws.an_open_session_is_of_two_addresses.Goals as goal

pub returns : goal.returns
returns c = λ frames p s. pair_below p frames s
