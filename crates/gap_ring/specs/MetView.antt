-- The two ends of one ring, and what they knew once they have met.
use Rattle.std.specs.Prelude.{◌≡◌, ℕ}
use Rattle.gap_ring.specs.declared.met.Met.{Met}
use Rattle.gap_ring.specs.declared.putter.Putter.{Putter}
use Rattle.gap_ring.specs.declared.taker.Taker.{Taker}
use Rattle.gap_ring.specs.declared.view.Putting.{Putting}
use Rattle.gap_ring.specs.declared.view.Taking.{Taking}
use Rattle.gap_ring.specs.PutterView.{ring_of}
use Rattle.gap_ring.specs.TakerView.{ring_of_taker}

-- the two ends of one ring
abbrev pub IsPair : Putter → Taker → Type 0
IsPair p t = ring_of_taker t ≡ ring_of p

abbrev pub slots_of_met : Met → ℕ
slots_of_met m = m.seat.table_id.slots

abbrev pub putting_of_met : Met → Putting
putting_of_met m = m.seat.me.0.putting

abbrev pub taking_of_met : Met → Taking
taking_of_met m = m.seat.me.0.taking
