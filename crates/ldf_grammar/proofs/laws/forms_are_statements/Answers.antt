use Rattle.ldf_grammar.proofs.PartLaws.{Pieces}
use Rattle.ldf_grammar.proofs.StatementSoundLaws.{whole_statement_here, first_here}
use Rattle.ldf_grammar.proofs.StatementCompleteLaws.{whole_statement_there, first_there}
use Rattle.ldf_grammar.proofs.laws.forms_are_statements.Goals as goal

pub returns-clause-statement : goal.returns-clause-statement
returns-clause-statement c =
    let laws = c.forms_find_what_parses.ensures in
    let pieces : Pieces = record { quoted = laws.quoted; word = laws.word; string = laws.string; number = laws.number; signed = laws.signed } in
    λ text tokens statement rest. (whole_statement_here pieces text tokens statement rest, whole_statement_there pieces text tokens statement rest)

pub returns-clause-first : goal.returns-clause-first
returns-clause-first c =
    let laws = c.forms_find_what_parses.ensures in
    let pieces : Pieces = record { quoted = laws.quoted; word = laws.word; string = laws.string; number = laws.number; signed = laws.signed } in
    λ text tokens rest. (first_here pieces text tokens rest, first_there pieces text tokens rest)
