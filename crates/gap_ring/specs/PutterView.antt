-- A putter, by what its seat knows.
use Rattle.std.specs.Prelude.{◌≡◌, ℕ, Bool, List}
use Rattle.std.specs.Arc.{arc_value}
use Rattle.atomic_table.specs.Seated.{TableId}
use Rattle.gap_ring.specs.declared.entries.Offered.{Offered}
use Rattle.gap_ring.specs.declared.putter.Putter.{Putter}
use Rattle.gap_ring.specs.declared.view.View.{View}

-- which ring it is
abbrev pub ring_of : Putter → TableId
ring_of p = (arc_value p.ring).shared.table_id

-- the bus of the ring, and its capacity
abbrev pub bus_of : Putter → ℕ
bus_of p = (arc_value p.ring).shared.key

abbrev pub slots_of : Putter → ℕ
slots_of p = (ring_of p).slots

abbrev pub view_of : Putter → View
view_of p = p.seat.me.0

-- the offers that it made, and whether it has ended
abbrev pub offers_of : Putter → List Offered
offers_of p = (view_of p).putting.offers

abbrev pub has_ended : Putter → Bool
has_ended p = (view_of p).putting.ended

-- the same ring, with the same bus
abbrev pub IsSameRing : Putter → Putter → Type 0
IsSameRing p q = (ring_of q ≡ ring_of p) × (bus_of q ≡ bus_of p)
