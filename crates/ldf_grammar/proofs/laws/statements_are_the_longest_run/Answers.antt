use Rattle.token_forms.specs.Runs.{run_of}
use Rattle.ldf_grammar.specs.StatementForms.{whole_statement}
use Rattle.ldf_grammar.proofs.RunLaws.{statement_takes}
use Rattle.ldf_grammar.proofs.laws.statements_are_the_longest_run.Goals as goal

pub returns-clause-longest : goal.returns-clause-longest
returns-clause-longest c = λ text tokens. c.one_longest_run.ensures.some (whole_statement text) tokens (statement_takes text)

pub returns-clause-only : goal.returns-clause-only
returns-clause-only c = λ text tokens statements rest longest.
    let run = run_of (whole_statement text) tokens in
    c.one_longest_run.ensures.one (whole_statement text) tokens statements run.0 rest run.1 longest
    (c.one_longest_run.ensures.some (whole_statement text) tokens (statement_takes text))
