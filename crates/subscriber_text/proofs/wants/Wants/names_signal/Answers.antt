use Rattle.std.proofs.Common.{◌∙◌}
use Rattle.subscriber_text.specs.WantView.{wants_view}
use Rattle.subscriber_text.proofs.WantLaws.{any_indexed}
use Rattle.subscriber_text.proofs.wants.Wants.names_signal.Goals as goal

pub returns : goal.returns
returns c =
    rw (← c.self.view_is) (c.names_signal.ensures ∙ any_indexed _ (wants_view c.self.inside.wants.items) c.self.inside.index c.self.invariant)
