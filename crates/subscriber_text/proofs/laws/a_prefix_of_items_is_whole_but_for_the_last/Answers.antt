use Rattle.subscriber_text.proofs.CutLaws.{cut_text}
use Rattle.subscriber_text.proofs.laws.a_prefix_of_items_is_whole_but_for_the_last.Goals as goal

pub returns : goal.returns
returns c = cut_text
