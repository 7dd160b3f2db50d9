use Rattle.std.proofs.Common.{◌≡◌}
use Rattle.gap_ring.specs.TakerView.{ring_of_taker}
use Rattle.sharing_tests.proofs.rings.two_threads.drain.Given as goal

abbrev pub invariant-loop : goal.invariant-loop
invariant-loop g l = ring_of_taker l.session.taker ≡ ring_of_taker l.fn.session.taker
