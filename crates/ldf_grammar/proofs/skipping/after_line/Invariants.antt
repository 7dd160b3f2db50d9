use Rattle.std.proofs.Common.{◌≡◌, length}
use Rattle.ldf_grammar.specs.StatementForms.{after_line}
use Rattle.ldf_grammar.proofs.skipping.after_line.Given as goal

abbrev pub invariant-loop-rest : goal.invariant-loop-rest
invariant-loop-rest l = after_line l.bytes l.rest ≡ after_line l.bytes l.tokens

abbrev pub decreases-loop-rest : goal.decreases-loop-rest
decreases-loop-rest l = length l.rest
