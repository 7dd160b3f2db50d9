use Rattle.j1939_tp.proofs.PlaceLaws.{found, open_since}
use Rattle.j1939_tp.proofs.laws.a_session_is_open_since_its_last_opening.Goals as goal

pub returns : goal.returns
returns c = λ frames p s. (found p frames s, λ since. open_since p frames since.0 s since.1)
