use Rattle.subscriber_text.proofs.GoLaws.{fed_bytes, go_first, go_nowhere}
use Rattle.subscriber_text.proofs.laws.the_wants_end_at_the_first_go.Goals as goal

pub returns-clause-bytes : goal.returns-clause-bytes
returns-clause-bytes c = fed_bytes

pub returns-clause-go : goal.returns-clause-go
returns-clause-go c = go_first

pub returns-clause-none : goal.returns-clause-none
returns-clause-none c = go_nowhere
