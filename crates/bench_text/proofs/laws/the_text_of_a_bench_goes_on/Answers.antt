use Rattle.bench_text.proofs.TextLaws.{texts_none, texts_one, texts_more, part_prefix, fault_prefix}
use Rattle.bench_text.proofs.laws.the_text_of_a_bench_goes_on.Goals as goal

pub returns-clause-none : goal.returns-clause-none
returns-clause-none c = texts_none

pub returns-clause-bus : goal.returns-clause-bus
returns-clause-bus c = texts_one

pub returns-clause-more : goal.returns-clause-more
returns-clause-more c = texts_more

pub returns-clause-part : goal.returns-clause-part
returns-clause-part c = part_prefix c.the_text_goes_on.ensures.prefix

pub returns-clause-fault : goal.returns-clause-fault
returns-clause-fault c = fault_prefix c.the_text_goes_on.ensures.prefix
