use Rattle.std.proofs.Common.{arith, ap, length}
use Rattle.image_compiler.proofs.WritingLaws.{group_here, group_not_here, groups_none}
use Rattle.image_compiler.proofs.buses.extended_messages.Goals as goal
use Rattle.image_compiler.proofs.buses.extended_messages.Goals.{then-message, else-message}

pub loop-message-preserved : goal.loop-message-preserved
loop-message-preserved c = elim c.if-message.branch [
  | then-message w ↦ (let step = ap length (group_here c.args.messages.now c.loop-message.message-index c.message-item.result c.loop-message-test.true c.message-item.is w.if-message.true) in
      record { few = omega (arith, w.count-is, c.loop-message.invariant.few); counted = omega (arith, step, w.count-is, c.loop-message.invariant.counted) })
  | else-message w ↦ (let step = ap length (group_not_here c.args.messages.now c.loop-message.message-index c.message-item.result c.loop-message-test.true c.message-item.is w.if-message.false) in
      record { few = omega (arith, w.count-is, c.loop-message.invariant.few); counted = omega (arith, step, w.count-is, c.loop-message.invariant.counted) })
]

pub returns : goal.returns
returns c =
    let none = ap length (groups_none c.args.messages.now c.loop-message.message-index c.loop-message-test.false) in
    omega (arith, none, c.loop-message.invariant.counted)
