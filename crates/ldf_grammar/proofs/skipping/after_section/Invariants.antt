use Rattle.std.proofs.Common.{◌≡◌, ◌+◌, ◌≤◌, length}
use Rattle.ldf_grammar.specs.StatementForms.{after_section}
use Rattle.ldf_grammar.proofs.skipping.after_section.Given as goal

abbrev pub invariant-loop-rest : goal.invariant-loop-rest
invariant-loop-rest l = record {
  found : after_section l.bytes l.depth l.rest ≡ after_section l.bytes 0 l.tokens;
  room : l.depth + length l.rest ≤ length l.tokens;
}

abbrev pub decreases-loop-rest : goal.decreases-loop-rest
decreases-loop-rest l = length l.rest
