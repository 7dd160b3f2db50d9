use Rattle.std.proofs.Common.{◌≡◌, ◌∙◌, None, false, sym}
use Rattle.subscriber_text.specs.Wants.{names_signal, wants_whole_bus}
use Rattle.subscriber_text.specs.WantView.{name_of, wants_view}
use Rattle.subscriber_text.proofs.WantLaws.{or_index}
use Rattle.subscriber_text.proofs.wants.Wants.wants_all_signals.Goals as goal

pub returns-else-wants_whole_bus : goal.returns-else-wants_whole_bus
returns-else-wants_whole_bus c =
    let none : wants_whole_bus c.args.self.now c.args.bus ≡ false = sym c.if-wants_whole_bus.ensures in
    rw (← c.self.view_is) (c.names_signal.ensures ∙ or_index _ (names_signal c.args.bus (name_of c.args.message) None) (wants_view c.self.inside.wants.items) c.self.inside.index
    (rw (← c.self.view_is) at none) c.self.invariant)
