use Rattle.dbc_grammar.proofs.NeverLaws.{database_answered}
use Rattle.dbc_grammar.proofs.OneFaultLaws.{fault_answered}
use Rattle.dbc_grammar.proofs.read.read_dbc.Goals as goal

pub returns-clause-every_database : goal.returns-clause-every_database
returns-clause-every_database c =
    database_answered c.database_is_unique.ensures.one c.database_is_unique.ensures.never_both c.args.bytes.now c.read_text-read.result
    c.read_text-read.ensures.ok c.read_text-read.ensures.fault

pub returns-clause-every_fault : goal.returns-clause-every_fault
returns-clause-every_fault c =
    fault_answered c.database_is_unique.ensures.one_fault c.database_is_unique.ensures.never_both c.args.bytes.now c.read_text-read.result
    c.read_text-read.ensures.ok c.read_text-read.ensures.fault
