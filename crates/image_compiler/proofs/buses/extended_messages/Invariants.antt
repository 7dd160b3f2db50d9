use Rattle.std.proofs.Common.{◌≡◌, ◌+◌, ◌≤◌, drop, length}
use Rattle.image_words.specs.Index.{group_entries}
use Rattle.image_compiler.proofs.buses.extended_messages.Given as goal

abbrev pub invariant-loop-message : goal.invariant-loop-message
invariant-loop-message l = record {
  few : l.count ≤ l.message-index;
  counted : l.count + length (group_entries l.message-index (drop l.message-index l.messages)) ≡ length (group_entries 0 l.messages);
}
