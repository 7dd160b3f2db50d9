use Rattle.std.proofs.Common.{[]}
use Rattle.mill_database.specs.GeneratedText.{generated_text}
use Rattle.mill_database.specs.GeneratedDatabase.{generated_database}
use Rattle.mill_database.proofs.EmptyLaws.{lacks_statement}
use Rattle.mill_database.proofs.ValidLaws.{is_made, keeps_rules}
use Rattle.mill_database.proofs.GatherLaws.{is_database}
use Rattle.mill_database.proofs.laws.the_generated_text_is_whole.Goals as goal

pub returns : goal.returns
returns c =
    let tree = c.signals_without_parents.ensures.tree in
    is_database (lacks_statement generated_text (λ s rest. c.forms_are_statements.ensures generated_text [] s rest)) tree
    (c.valid_keeps_rules.ensures.valid generated_database (is_made tree) keeps_rules)
