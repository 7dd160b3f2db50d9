use Rattle.std.proofs.Common.{◌≡◌, ◌≤◌, ◌*◌, take}
use Rattle.bench_model.specs.Limits.{most_signals}
use Rattle.bench_server.specs.ToolText.{signal_count}
use Rattle.bench_server.proofs.checking.signal_count.Given as goal

-- the signals of the messages so far are counted
abbrev pub invariant-loop-message : goal.invariant-loop-message
invariant-loop-message l = record {
  counted : l.count ≡ signal_count (take l.message-index l.message-items);
  few : l.count ≤ most_signals * l.message-index;
}
