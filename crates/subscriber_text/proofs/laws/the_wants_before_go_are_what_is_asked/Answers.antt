use Rattle.subscriber_text.proofs.RequestLaws.{lines_unfed, go_request, long_request, gone_request, open_request}
use Rattle.subscriber_text.proofs.laws.the_wants_before_go_are_what_is_asked.Goals as goal

pub returns-clause-lines : goal.returns-clause-lines
returns-clause-lines c = lines_unfed

pub returns-clause-go : goal.returns-clause-go
returns-clause-go c = go_request

pub returns-clause-long : goal.returns-clause-long
returns-clause-long c = long_request

pub returns-clause-gone : goal.returns-clause-gone
returns-clause-gone c = gone_request

pub returns-clause-open : goal.returns-clause-open
returns-clause-open c = open_request
