-- A taker, by what its seat knows.
use Rattle.std.specs.Prelude.{◌≡◌, ℕ}
use Rattle.std.specs.Arc.{arc_value}
use Rattle.atomic_table.specs.Seated.{TableId}
use Rattle.gap_ring.specs.declared.taker.Taker.{Taker}
use Rattle.gap_ring.specs.declared.view.Taking.{Taking}

abbrev pub taking_of : Taker → Taking
taking_of t = t.seat.me.0.taking

-- the attach word, which is the taker's turn where it is odd
abbrev pub turn_of_taker : Taker → ℕ
turn_of_taker t = (taking_of t).attach

-- which ring it is, its bus and its capacity
abbrev pub ring_of_taker : Taker → TableId
ring_of_taker t = (arc_value t.ring).shared.table_id

abbrev pub bus_of_taker : Taker → ℕ
bus_of_taker t = (taking_of t).bus

abbrev pub slots_of_taker : Taker → ℕ
slots_of_taker t = (ring_of_taker t).slots

-- the same ring, with the same bus
abbrev pub IsSameRing : Taker → Taker → Type 0
IsSameRing t u =
    (ring_of_taker u ≡ ring_of_taker t) × (bus_of_taker u ≡ bus_of_taker t)
