use Rattle.std.proofs.lemmas.Result.{on_ok_weaker}
use Rattle.subscriber_text.specs.WantView.{name_of}
use Rattle.subscriber_text.proofs.RecordLaws.{reading_written}
use Rattle.subscriber_text.proofs.record.append_reading.Goals as goal

pub returns-clause-ok : goal.returns-clause-ok
returns-clause-ok c = on_ok_weaker c.append_signals.result
    (λ written. reading_written c.args.wants.now c.args.reading.now c.args.out.now.items c.append_first_line.new.out.items c.append_signals.new.out.items c.in-Some.bus.now
    (name_of c.message_of-message.result) c.signals_of.result.now c.in-Some.ensures c.message_of-message.ensures c.signals_of.ensures c.in_ok-append_first_line.ensures.ok written)
    c.append_signals.ensures.ok
