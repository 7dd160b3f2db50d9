use Rattle.std.proofs.lemmas.Result.{on_ok_weaker}
use Rattle.bench_loader.proofs.ReplyLaws.{busy_joined}
use Rattle.bench_loader.proofs.reply_text.append_busy.Goals as goal

pub returns-clause-ok : goal.returns-clause-ok
returns-clause-ok c = on_ok_weaker c.append_holders.result
    (λ written. busy_joined c.args.out.now.items c.extend_from_slice.new.self.items c.append_holders.new.out.items c.args.holders.now
    c.in_ok-extend_from_slice.ensures.items written)
    c.append_holders.ensures.ok
