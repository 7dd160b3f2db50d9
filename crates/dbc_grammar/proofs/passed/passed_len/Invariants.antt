use Rattle.std.proofs.Common.{◌≡◌, ℕ, ◌<◌, get_or, true}
use Rattle.sig_text.specs.declared.token.Token.{Token}
use Rattle.dbc_grammar.specs.Sorts.{is_passed}
use Rattle.dbc_grammar.proofs.passed.passed_len.Given as goal

-- those so far are of the sort
abbrev pub invariant-loop-i : goal.invariant-loop-i
invariant-loop-i l = (k : ℕ) (d : Token) → k < l.i → is_passed l.sort l.bytes (get_or l.tokens k d) ≡ true
