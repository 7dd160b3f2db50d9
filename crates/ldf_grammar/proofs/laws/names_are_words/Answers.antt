use Rattle.ldf_grammar.proofs.NameLaws.{names_of_text}
use Rattle.ldf_grammar.proofs.laws.names_are_words.Goals as goal

pub returns : goal.returns
returns c = λ text d is. names_of_text (record { statement = c.forms_are_statements.ensures.statement; first = c.forms_are_statements.ensures.first }) text d is (c.valid_keeps_rules.ensures.keeps d is.valid)
