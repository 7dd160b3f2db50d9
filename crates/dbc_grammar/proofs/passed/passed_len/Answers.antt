use Rattle.std.proofs.Common.{◌∙◌, sym, length, arith}
use Rattle.std.proofs.lemmas.List.Sums.{prefix_len_is}
use Rattle.sig_text.specs.declared.token.Token.{Token}
use Rattle.sig_text.specs.declared.token.TokenKind.TheVariants.{Word}
use Rattle.dbc_grammar.specs.Sorts.{is_passed}
use Rattle.dbc_grammar.proofs.passed.passed_len.Goals as goal

any : Token
any = record { kind = Word; at = 0; end = 0 }

pub returns-clause-value : goal.returns-clause-value
unfolding any
returns-clause-value c =
    sym (prefix_len_is (is_passed c.args.sort c.args.bytes.now) c.args.tokens.now (length c.args.tokens.now) any (omega arith)
    (λ k lt. c.loop-i.invariant k any (omega arith)) (λ past. absurd (omega arith)))

pub returns-then-not-is_passed-clause-value : goal.returns-then-not-is_passed-clause-value
unfolding any
returns-then-not-is_passed-clause-value c =
    sym (prefix_len_is (is_passed c.args.sort c.args.bytes.now) c.args.tokens.now c.loop-i.i any (omega arith)
    (λ k lt. c.loop-i.invariant k any lt) (λ _. sym c.is_passed.ensures ∙ c.if-not-is_passed.true))
