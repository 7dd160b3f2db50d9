-- The sorts of tokens that statements pass over, as the code names them.
use Rattle.std.specs.Prelude.{ℕ, Bool, List}
use Rattle.sig_text.specs.declared.token.Token.{Token}
use Rattle.dbc_grammar.specs.declared.passed.Passed.{Passed}
use Rattle.dbc_grammar.specs.declared.passed.Passed.TheVariants.{Symbols, Nodes, ToSemicolon, Lenient}
use Rattle.dbc_grammar.specs.Words.{is_free_word}
use Rattle.dbc_grammar.specs.Passed.{is_symbol, is_before_semicolon, is_before_statement}

abbrev pub is_passed : Passed → List ℕ → Token → Bool
is_passed Symbols = is_symbol
is_passed Nodes = is_free_word
is_passed ToSemicolon = is_before_semicolon
is_passed Lenient = is_before_statement
