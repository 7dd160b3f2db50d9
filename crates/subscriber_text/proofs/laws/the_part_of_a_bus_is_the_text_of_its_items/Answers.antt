use Rattle.std.proofs.Common.{false}
use Rattle.subscriber_text.proofs.ItemPartLaws.{items_part}
use Rattle.subscriber_text.proofs.laws.the_part_of_a_bus_is_the_text_of_its_items.Goals as goal

pub returns : goal.returns
returns c = λ wants items bus are lt p. items_part wants bus false items are lt p
