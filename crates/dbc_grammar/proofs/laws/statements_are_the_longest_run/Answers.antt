use Rattle.token_forms.specs.Runs.{run_of}
use Rattle.dbc_grammar.specs.Forms.{statement_at}
use Rattle.dbc_grammar.specs.Statements.{Parses}
use Rattle.dbc_grammar.proofs.PartLaws.{finds_of, longest_each, each_longest}
use Rattle.dbc_grammar.proofs.TakesLaws.{statement_takes}
use Rattle.dbc_grammar.proofs.laws.statements_are_the_longest_run.Goals as goal

pub returns-clause-longest : goal.returns-clause-longest
returns-clause-longest c = λ text tokens.
    let run = run_of (statement_at text) tokens in
    longest_each (statement_at text) (Parses text) (finds_of (statement_at text) (Parses text) (c.forms_are_statements.ensures text))
    tokens run.0 run.1 (c.one_longest_run.ensures.some (statement_at text) tokens (statement_takes text))

pub returns-clause-only : goal.returns-clause-only
returns-clause-only c = λ text tokens xs ys rest left p q.
    let finds = finds_of (statement_at text) (Parses text) (c.forms_are_statements.ensures text) in
    c.one_longest_run.ensures.one (statement_at text) tokens xs ys rest left
    (each_longest (statement_at text) (Parses text) finds tokens xs rest p)
    (each_longest (statement_at text) (Parses text) finds tokens ys left q)
