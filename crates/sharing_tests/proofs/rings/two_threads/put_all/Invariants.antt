use Rattle.std.proofs.Common.{◌≡◌}
use Rattle.gap_ring.specs.PutterView.{ring_of}
use Rattle.sharing_tests.proofs.rings.two_threads.put_all.Given as goal

abbrev pub invariant-loop : goal.invariant-loop
invariant-loop g l = ring_of l.feed.putter ≡ ring_of l.fn.feed.putter
