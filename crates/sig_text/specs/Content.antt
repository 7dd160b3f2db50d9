-- What a string token says.
use Rattle.std.specs.Prelude.{◌≡◌, ℕ, ◌+◌, ◌-◌, Bool, ◌&&◌, ◌==◌, if◌then◌else◌, List, [], ◌∷◌, slice_index, slice_range, encode_utf8}
use Rattle.std.specs.List.{flat_map}
use Rattle.sig_text.specs.Bytes.{quote, backslash}
use Rattle.sig_text.specs.Tokens.{IsToken}
use Rattle.sig_text.specs.declared.token.TokenKind.TheVariants.{Str}
use Rattle.sig_text.specs.declared.token.Token.{Token}

-- the token is a string of the text
pub record IsStringOf (text : List ℕ) (token : Token) : Type 0 where
  pub kind : token.kind ≡ Str
  pub is_there : IsToken text token

-- a backslash is at this place, directly before a quote
abbrev pub is_escape : List ℕ → ℕ → Bool
is_escape content place = slice_index content place == backslash && (slice_index content (place + 1) == quote)

-- a backslash directly before a quote is left out; every other byte stands for itself
abbrev pub unescaped : List ℕ → List ℕ
unescaped [] = []
unescaped (b ∷ rest) = if is_escape (b ∷ rest) 0 then unescaped rest else b ∷ unescaped rest

-- the bytes between the quotes
abbrev pub between_quotes : List ℕ → Token → List ℕ
between_quotes text token = slice_range text (token.at + 1) (token.end - 1)

-- a byte of UTF-8 text stands for itself, another for the character of its number
abbrev pub encoded : Bool → ℕ → List ℕ
encoded utf8 b = if utf8 then b ∷ [] else encode_utf8 b

-- the content in UTF-8, where utf8 says whether the whole text is
abbrev pub content_of : List ℕ → Token → Bool → List ℕ
content_of text token utf8 = flat_map (encoded utf8) (unescaped (between_quotes text token))
