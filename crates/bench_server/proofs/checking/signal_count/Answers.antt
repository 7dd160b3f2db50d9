use Rattle.std.proofs.Common.{◌≡◌, ◌+◌, suc, List, length, take, get_or, sym, ap, subst, arith, add-one}
use Rattle.std.specs.List.{All}
use Rattle.bench_model.specs.declared.database.Message.{Message}
use Rattle.bench_model.specs.Rules.{KeepsMessageRules}
use Rattle.bench_server.specs.ToolText.{signal_count}
use Rattle.bench_server.proofs.CountLaws.{count_more}
use Rattle.bench_server.proofs.checking.signal_count.Goals as goal

pub loop-message-preserved : goal.loop-message-preserved
loop-message-preserved c =
    let i = c.loop-message.message-index in
    let all = c.items-message-items.result.now in
    let message = c.message-item.result in
    let rules = c.valid_keeps_rules.ensures.keeps c.args.database.now c.requires in
    let each : All KeepsMessageRules all = subst (λ (ms : List Message). All KeepsMessageRules ms) (sym c.items-message-items.ensures) rules.messages in
    let kept : KeepsMessageRules message = subst (λ (m : Message). KeepsMessageRules m) (sym c.message-item.is) (each i message c.loop-message-test.true) in
    let more : signal_count (take (suc i) all) ≡ signal_count (take i all) + length (get_or all i message).signals = count_more all i message c.loop-message-test.true in
    let same : length message.signals ≡ length (get_or all i message).signals = ap (λ (m : Message). length m.signals) c.message-item.is in
    let signals : length c.items.result.now ≡ length message.signals = ap length c.items.ensures in
    record {
      counted = rw add-one (omega (arith, c.loop-message.invariant.counted, more, same, signals));
      few = omega (arith, c.loop-message.invariant.few, kept.count, signals);
    }
