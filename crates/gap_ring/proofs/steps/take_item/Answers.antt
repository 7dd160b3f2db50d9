use Rattle.std.proofs.Common.{◌∷◌, ◌∙◌, Some, sym, ap, arith}
use Rattle.atomic_table.specs.Table.{rest}
use Rattle.gap_ring.proofs.TakeLaws.{head_ready}
use Rattle.gap_ring.proofs.steps.take_item.Goals as goal

pub exchange-item-requires : goal.exchange-item-requires
exchange-item-requires c =
    let x = c.requires.may.0 in
    let held = c.requires.may.2 in
    let slot = c.requires.slot in
    (c.requires.on.0, (Some x, held ∙ (λ i. (sym slot i, Some x) ∷ sym (ap rest held) i)))

pub store-requires : goal.store-requires
store-requires c =
    let ring = c.args.ring.now.shared in
    let e = c.exchange-item.ensures in (
      e.0 ∙ c.requires.on.0,
      omega (arith, c.requires.on.1),
      head_ready ring.key ring.table_id.slots c.exchange-item.new.seat.id c.args.head c.args.slot c.args.seat.now.me c.exchange-item.new.seat.me c.requires.may.0
          c.requires.may.1 c.requires.slot c.requires.may.2 e.3,
    )
