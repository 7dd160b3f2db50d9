use Rattle.candump_log.proofs.PlaceLaws.{place_some, place_none}
use Rattle.candump_log.proofs.laws.place_among_names.Goals as goal

pub returns-clause-some : goal.returns-clause-some
returns-clause-some c names text place = place_some names text place (λ span. c.one_line.ensures.interface text span, c.one_line.ensures.no_interface text)

pub returns-clause-none : goal.returns-clause-none
returns-clause-none c names text = place_none names text (λ span. c.one_line.ensures.interface text span, c.one_line.ensures.no_interface text)
