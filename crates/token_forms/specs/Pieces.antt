-- What is at the front of a list of tokens: a word or a sign that a grammar quotes, a name, a string. What is
-- found is given with the tokens after it.
use Rattle.std.specs.Prelude.{ℕ, List, [], ◌∷◌, Option, Some, None, slice_range, if◌then◌else◌}
use Rattle.std.specs.Str.{bytes_eq}
use Rattle.sig_text.specs.declared.token.TokenKind.{TokenKind}
use Rattle.sig_text.specs.declared.token.TokenKind.TheVariants.{Word, Number, Str, Sign}
use Rattle.sig_text.specs.declared.token.Token.{Token}

-- the bytes of a token
abbrev pub token_text : List ℕ → Token → List ℕ
token_text text token = slice_range text token.at token.end

-- the tokens after the one with exactly these bytes, as a grammar quotes a word or a sign
unfoldable pub literal_at : List ℕ → List ℕ → List Token → Option (List Token)
literal_at text literal [] = None
literal_at text literal (token ∷ rest) = if bytes_eq (token_text text token) literal then Some rest else None

-- a token of the kind Word, Number or Str
abbrev pub word_by : Token → TokenKind → List Token → Option (Token × List Token)
word_by token Word rest = Some (token, rest)
word_by token Number rest = None
word_by token Str rest = None
word_by token Sign rest = None

unfoldable pub word_at : List Token → Option (Token × List Token)
word_at [] = None
word_at (token ∷ rest) = word_by token token.kind rest

abbrev pub number_by : Token → TokenKind → List Token → Option (Token × List Token)
number_by token Word rest = None
number_by token Number rest = Some (token, rest)
number_by token Str rest = None
number_by token Sign rest = None

unfoldable pub number_at : List Token → Option (Token × List Token)
number_at [] = None
number_at (token ∷ rest) = number_by token token.kind rest

abbrev pub string_by : Token → TokenKind → List Token → Option (Token × List Token)
string_by token Word rest = None
string_by token Number rest = None
string_by token Str rest = Some (token, rest)
string_by token Sign rest = None

unfoldable pub string_at : List Token → Option (Token × List Token)
string_at [] = None
string_at (token ∷ rest) = string_by token token.kind rest
