use Rattle.std.proofs.lemmas.List.Elements.{All-push}
use Rattle.bench_model.specs.Limits.{IsMade}
use Rattle.model_tests.proofs.checks.messages_of.Goals as goal

pub loop-row-preserved : goal.loop-row-preserved
loop-row-preserved c = rw c.in_ok-push.ensures.items (All-push IsMade _ _ c.loop-row.invariant c.in_ok-message_of.ensures)
