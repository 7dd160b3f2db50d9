use Rattle.bench_model.proofs.ByteNumberLaws as law
use Rattle.bench_model.proofs.laws.bytes_as_number.Goals as goal

pub returns-clause-prefix : goal.returns-clause-prefix
returns-clause-prefix c = law.prefix_bytes

pub returns-clause-rest : goal.returns-clause-rest
returns-clause-rest c = law.rest_bytes

pub returns-clause-below : goal.returns-clause-below
returns-clause-below c = law.below

pub returns-clause-big_below : goal.returns-clause-big_below
returns-clause-big_below c = law.big_below

pub returns-clause-little_next : goal.returns-clause-little_next
returns-clause-little_next c = law.little_next

pub returns-clause-little_rest : goal.returns-clause-little_rest
returns-clause-little_rest c = law.little_rest

pub returns-clause-big_next : goal.returns-clause-big_next
returns-clause-big_next c = law.big_next
