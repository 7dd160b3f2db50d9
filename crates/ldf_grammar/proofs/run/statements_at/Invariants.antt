use Rattle.std.proofs.Common.{length}
use Rattle.token_forms.specs.Runs.{AreRun}
use Rattle.ldf_grammar.specs.StatementForms.{whole_statement}
use Rattle.ldf_grammar.proofs.run.statements_at.Given as goal

abbrev pub invariant-loop-statements : goal.invariant-loop-statements
invariant-loop-statements l = AreRun (whole_statement l.bytes) l.tokens l.statements.items l.rest

abbrev pub decreases-loop-statements : goal.decreases-loop-statements
decreases-loop-statements l = length l.rest
