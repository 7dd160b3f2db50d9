use Rattle.gap_ring.specs.PutterView.{bus_of, slots_of}
use Rattle.gap_ring.specs.MetView.{putting_of_met, taking_of_met}
use Rattle.gap_ring.proofs.MetLaws.{met_turns}
use Rattle.gap_ring.proofs.met.meet.Goals as goal

pub returns-clause-turns : goal.returns-clause-turns
returns-clause-turns c =
    let met = c.meet_on.result in
    met_turns (bus_of c.args.putter) (slots_of c.args.putter) (putting_of_met met) (taking_of_met met) c.meet_on.ensures.met c.meet_on.ensures.put
