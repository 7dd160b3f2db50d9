use Rattle.gap_ring.specs.PutterView.{bus_of}
use Rattle.gap_ring.proofs.met.meet.Given as goal

abbrev pub ghosts-meet_on : goal.ghosts-meet_on
ghosts-meet_on a = record { bus = bus_of a.putter }
