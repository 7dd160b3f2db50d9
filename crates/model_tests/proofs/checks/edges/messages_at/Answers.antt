use Rattle.std.proofs.lemmas.List.Elements.{All-push}
use Rattle.bench_model.specs.Limits.{IsMade}
use Rattle.model_tests.proofs.checks.edges.messages_at.Goals as goal

pub loop-place-preserved : goal.loop-place-preserved
loop-place-preserved c = rw c.in_ok-push.ensures.items (All-push IsMade _ _ c.loop-place.invariant c.in_ok-message_at.ensures)
