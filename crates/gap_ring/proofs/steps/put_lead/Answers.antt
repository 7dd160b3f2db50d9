use Rattle.std.proofs.Common.{◌∙◌, arith}
use Rattle.gap_ring.proofs.PutLaws.{lead_ready}
use Rattle.gap_ring.proofs.steps.put_lead.Goals as goal

-- the step keeps the rule, with the item that is in hand
pub store-requires : goal.store-requires
store-requires c =
    let seat = c.args.seat.now in
    let ring = c.args.ring.now.shared in
    let e = c.exchange-before.ensures in (
      e.0 ∙ c.requires.on.0,
      omega (arith, c.requires.on.1),
      lead_ready ring.key ring.table_id.slots c.exchange-before.new.seat.id c.args.tail c.args.slot seat.me c.exchange-before.new.seat.me c.args.item c.requires.may c.requires.slot.0 c.requires.slot.1 e.3,
    )
