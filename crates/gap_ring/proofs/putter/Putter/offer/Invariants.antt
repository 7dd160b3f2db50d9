use Rattle.std.proofs.Common.{Some}
use Rattle.gap_ring.proofs.putter.Putter.offer.Given as goal

abbrev pub ghosts-offer_said : goal.ghosts-offer_said
ghosts-offer_said a = record { reading = Some a.reading }
