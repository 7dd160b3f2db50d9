use Rattle.dbc_grammar.proofs.NameLaws.{names_of_text}
use Rattle.dbc_grammar.proofs.laws.names_are_words.Goals as goal

pub returns : goal.returns
returns c = λ bytes d is. names_of_text c.forms_are_statements.ensures bytes d is (c.valid_keeps_rules.ensures.keeps d is.valid)
