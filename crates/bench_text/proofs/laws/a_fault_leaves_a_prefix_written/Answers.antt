use Rattle.bench_text.proofs.FaultLaws.{known_before, known_there, fault_written}
use Rattle.bench_text.proofs.laws.a_fault_leaves_a_prefix_written.Goals as goal

pub returns-clause-heard : goal.returns-clause-heard
returns-clause-heard c place logs logs_now s bytes known = known_before place logs logs_now s bytes known

pub returns-clause-log : goal.returns-clause-log
returns-clause-log c place logs logs_now s bytes known = known_there place logs logs_now s bytes known

pub returns-clause-prefix : goal.returns-clause-prefix
returns-clause-prefix c = fault_written c.the_text_goes_on.ensures.prefix
