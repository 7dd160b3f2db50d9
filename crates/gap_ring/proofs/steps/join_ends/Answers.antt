use Rattle.std.proofs.Common.{ℕ, ◌∙◌, ap, sym, subst, arith}
use mathlib.Core.Option.{none}
use Rattle.atomic_table.specs.Table.{step, Allows}
use Rattle.gap_ring.specs.Rule.{Kept, head_word}
use Rattle.gap_ring.specs.Steps.{TakerLoads, learned}
use Rattle.gap_ring.proofs.RingLaws.{joins}
use Rattle.gap_ring.proofs.TakeLaws.{learns}
use Rattle.gap_ring.proofs.steps.join_ends.Goals as goal

pub join_seat-requires : goal.join_seat-requires
join_seat-requires g c =
    let seat = c.args.seat.now in
    let other = c.args.other in
    let ring = c.args.ring.now.shared in
    let on = c.requires.on in (
      on.0.0,
      on.1,
      on.2,
      omega (arith, on.0.1),
      joins ring.key seat.id other.id seat.me.0 other.me.0 c.requires.may.0 c.requires.may.1,
    )

pub load-requires : goal.load-requires
load-requires g c =
    let ring = c.args.ring.now.shared in
    let e = c.join_seat.ensures in (
      e.0 ∙ c.requires.on.0.0,
      omega (arith, c.requires.on.0.1),
      subst (λ (b : ℕ). Allows (Kept ring.key) ring.table_id.slots c.join_seat.new.seat.id c.join_seat.new.seat.me head_word (λ (n : ℕ). n) (TakerLoads (learned b) (step ring.table_id.slots head_word 0 0 none) c.join_seat.new.seat.me))
          (sym c.requires.bus) (learns ring.key ring.table_id.slots c.join_seat.new.seat.id c.join_seat.new.seat.me (ap (λ m. m.0.puts) e.2 ∙ c.requires.may.0) (ap (λ m. m.0.takes) e.2)),
    )
