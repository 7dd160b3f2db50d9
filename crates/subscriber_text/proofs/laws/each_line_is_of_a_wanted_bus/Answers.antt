use Rattle.std.proofs.Common.{false}
use Rattle.subscriber_text.proofs.WantedLaws.{items_wanted}
use Rattle.subscriber_text.proofs.laws.each_line_is_of_a_wanted_bus.Goals as goal

pub returns : goal.returns
returns c = λ wants items are p. items_wanted wants items are p (λ bus. false)
