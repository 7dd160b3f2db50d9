use Rattle.std.proofs.lemmas.Result.{on_ok_weaker}
use Rattle.bench_loader.specs.FaultText.{fault_text}
use Rattle.bench_loader.specs.ReplyText.{bus_word}
use Rattle.bench_loader.proofs.ReplyLaws.{refused_joined}
use Rattle.bench_loader.proofs.reply_text.append_refused.Goals as goal

pub returns-clause-ok : goal.returns-clause-ok
returns-clause-ok c = on_ok_weaker c.append_fault.result
    (λ written. refused_joined c.args.out.now.items c.append_of_bus.new.out.items c.push.new.self.items c.append_fault.new.out.items
    (bus_word c.args.buses.now c.args.bus) (fault_text c.args.fault.now) c.in_ok-append_of_bus.ensures.ok c.in_ok-push.ensures.items written)
    c.append_fault.ensures.ok
