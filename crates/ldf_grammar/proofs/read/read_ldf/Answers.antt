use Rattle.ldf_grammar.proofs.FaultLaws.{database_answered, fault_answered}
use Rattle.ldf_grammar.proofs.read.read_ldf.Goals as goal

pub returns-clause-every_database : goal.returns-clause-every_database
returns-clause-every_database c = λ d is.
    database_answered c.args.bytes.now c.read.result d (c.description_is_unique.ensures.one c.args.bytes.now) (c.description_is_unique.ensures.never_both c.args.bytes.now) c.read.ensures.ok c.read.ensures.fault is

pub returns-clause-every_fault : goal.returns-clause-every_fault
returns-clause-every_fault c = λ f has.
    fault_answered c.args.bytes.now c.read.result f (c.description_is_unique.ensures.one_fault c.args.bytes.now) (c.description_is_unique.ensures.never_both c.args.bytes.now) c.read.ensures.ok c.read.ensures.fault has
