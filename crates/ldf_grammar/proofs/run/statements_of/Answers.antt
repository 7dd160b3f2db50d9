use Rattle.ldf_grammar.proofs.RowLaws.{Rows, whole_text, breaks_at_start, breaks_later}
use Rattle.ldf_grammar.proofs.run.statements_of.Goals as goal

pub returns-in_default-clause-broken : goal.returns-in_default-clause-broken
returns-in_default-clause-broken c =
    let laws = c.forms_are_statements.ensures in
    let rows : Rows = record { statement = laws.statement; first = laws.first } in
    breaks_at_start rows c.args.bytes.now c.args.tokens.now c.place_of.result c.in_default.ensures c.place_of.ensures

pub returns-in-empty-clause-ok : goal.returns-in-empty-clause-ok
returns-in-empty-clause-ok c =
    let laws = c.forms_are_statements.ensures in
    let rows : Rows = record { statement = laws.statement; first = laws.first } in
    whole_text rows c.args.bytes.now c.args.tokens.now c.in-Some.rest.now c.in_ok-statements.rest.now c.in_ok-statements.statements.items c.in-Some.ensures
    c.in_ok-statements.ensures c.in-empty.len_below

pub returns-in-len1-up-clause-broken : goal.returns-in-len1-up-clause-broken
returns-in-len1-up-clause-broken c =
    let laws = c.forms_are_statements.ensures in
    let rows : Rows = record { statement = laws.statement; first = laws.first } in
    breaks_later rows c.args.bytes.now c.args.tokens.now c.in-Some.rest.now c.in_ok-statements.rest.now c.in_ok-statements.statements.items _ c.in-Some.ensures
    c.in_ok-statements.ensures c.in-len1-up.len_at_least
