use Rattle.dbc_grammar.proofs.DatabaseLaws.{lex_read}
use Rattle.dbc_grammar.proofs.ErrorLaws.{same_error}
use Rattle.dbc_grammar.proofs.read.read_text.Goals as goal

pub returns-in_err-tokens-clause-fault : goal.returns-in_err-tokens-clause-fault
returns-in_err-tokens-clause-fault c =
    let fault = c.in_err-tokens.field-0.0 in
    rw (same_error c.from_residual.result fault c.from_residual.ensures) (lex_read c.args.bytes.now fault c.in_err-tokens.ensures.fault)
