-- The tokens that a statement passes over: as many of one sort as there are.
use Rattle.std.specs.Prelude.{ℕ, ◌&&◌, ◌||◌, Bool, not, List, codes}
use Rattle.std.specs.Str.{bytes_eq}
use Rattle.byte_forms.specs.Classes.{drop_while}
use Rattle.sig_text.specs.declared.token.Token.{Token}
use Rattle.token_forms.specs.Pieces.{token_text}
use Rattle.dbc_grammar.specs.Words.{is_word_kind, is_statement_word}

abbrev pub is_semicolon : List ℕ → Token → Bool
is_semicolon text token = bytes_eq (token_text text token) (codes ";")

-- `BS_` and `BU_` end the list of new symbols
abbrev pub ends_symbols : List ℕ → Bool
ends_symbols text = bytes_eq text (codes "BS_") || bytes_eq text (codes "BU_")

-- a Word but `BS_` and `BU_`
abbrev pub is_symbol : List ℕ → Token → Bool
is_symbol text token = is_word_kind token.kind && not (ends_symbols (token_text text token))

-- any token but `;`
abbrev pub is_before_semicolon : List ℕ → Token → Bool
is_before_semicolon text token = not (is_semicolon text token)

-- any token but `;` and statement words
abbrev pub is_before_statement : List ℕ → Token → Bool
is_before_statement text token = not (is_semicolon text token || is_statement_word (token_text text token))

-- the tokens after all of a sort at the front
abbrev pub pass : (Token → Bool) → List Token → List Token
pass is_passed tokens = drop_while is_passed tokens
