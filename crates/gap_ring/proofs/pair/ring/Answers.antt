use Rattle.std.proofs.Common.{refl, ap, arith}
use Rattle.gap_ring.proofs.RingLaws.{starts, splits}
use Rattle.gap_ring.proofs.pair.ring.Goals as goal

pub vacant-requires : goal.vacant-requires
vacant-requires c = starts c.args.bus c.args.capacity _ c.requires.0 refl

pub split_seat-other-requires : goal.split_seat-other-requires
split_seat-other-requires c =
    let t = c.in_ok-table.table.shared in
    let seat = c.in_ok-table.seat in
    let e = c.in_ok-table.ensures in (
      e.2,
      omega (arith, e.0),
      splits t.key seat.id seat.me.0 (ap (λ m. m.0.puts) e.4) (ap (λ m. m.0.takes) e.4),
    )
