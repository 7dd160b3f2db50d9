use Rattle.std.proofs.Common.{◌≡◌, ◌++◌, drop}
use Rattle.image_words.specs.Index.{group_entries}
use Rattle.image_compiler.proofs.buses.group_entries.Given as goal

abbrev pub invariant-loop-message : goal.invariant-loop-message
invariant-loop-message l = record {
  place : l.position ≡ l.message-index;
  written : l.entries.items ++ group_entries l.message-index (drop l.message-index l.messages) ≡ group_entries 0 l.messages;
}
