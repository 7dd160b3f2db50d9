use Rattle.std.proofs.Common.{◌∙◌, sym, arith}
use Rattle.image_compiler.proofs.WritingLaws.{keys_more, keys_none}
use Rattle.image_compiler.proofs.buses.key_entries.Goals as goal

pub loop-message-preserved : goal.loop-message-preserved
loop-message-preserved c = record {
  place = omega (arith, c.loop-message.invariant.place);
  written = sym (keys_more c.args.messages.now c.loop-message.message-index _ c.message-item.result c.loop-message.entries.items c.push.new.self.items c.loop-message-test.true c.message-item.is
      (omega (arith, c.key_number_of.ensures.value, c.loop-message.invariant.place)) c.in_ok-push.ensures.items)
      ∙ c.loop-message.invariant.written;
}

pub returns : goal.returns
returns c = keys_none c.args.messages.now c.loop-message.message-index c.loop-message.entries.items c.loop-message-test.false ∙ c.loop-message.invariant.written
