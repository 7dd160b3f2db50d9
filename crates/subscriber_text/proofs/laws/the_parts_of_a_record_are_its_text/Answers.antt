use Rattle.subscriber_text.proofs.MessageLaws.{parts_joined}
use Rattle.subscriber_text.proofs.laws.the_parts_of_a_record_are_its_text.Goals as goal

pub returns : goal.returns
returns c = parts_joined
