use Rattle.std.proofs.Common.{sym}
use Rattle.ldf_grammar.specs.StatementForms.{whole_statement}
use Rattle.ldf_grammar.proofs.RunLaws.{run_pushed}
use Rattle.ldf_grammar.proofs.run.statements_at.Goals as goal

pub loop-statements-preserved : goal.loop-statements-preserved
loop-statements-preserved c =
    run_pushed (whole_statement c.args.bytes.now) c.args.tokens.now c.loop-statements.statements.items c.push.new.self.items c.loop-statements.rest.now _ _ c.loop-statements.invariant (sym (rw c.in-Some.is at c.in_ok-statement.ensures.found)) c.in_ok-push.ensures.items
