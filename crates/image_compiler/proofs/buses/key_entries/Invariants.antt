use Rattle.std.proofs.Common.{◌≡◌, ◌++◌, drop}
use Rattle.image_words.specs.Index.{key_entries}
use Rattle.image_compiler.proofs.buses.key_entries.Given as goal

abbrev pub invariant-loop-message : goal.invariant-loop-message
invariant-loop-message l = record {
  place : l.position ≡ l.message-index;
  written : l.entries.items ++ key_entries l.message-index (drop l.message-index l.messages) ≡ key_entries 0 l.messages;
}
