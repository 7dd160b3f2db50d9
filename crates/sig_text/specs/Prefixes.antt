-- The longest prefix of a text that is in a language, and the token that it begins with.
use Rattle.std.specs.Prelude.{ℕ, ◌<◌, ◌≤◌, List, length, take}
use Rattle.sig_text.specs.Lexemes.{IsLexeme}
use Rattle.sig_text.specs.declared.token.TokenKind.{TokenKind}

-- the first n bytes are the longest prefix that the language has; n is 0 where it has none
pub record IsLongestPrefix (Language : List ℕ → Type 0) (text : List ℕ) (n : ℕ) : Type 0 where
  pub within : n ≤ length text
  pub lexeme : 0 < n → Language (take n text)
  pub longest : (m : ℕ) → m ≤ length text → Language (take m text) → m ≤ n

-- the first n bytes are a token of this kind, and no longer prefix is a token of any kind
pub record BeginsToken (text : List ℕ) (kind : TokenKind) (n : ℕ) : Type 0 where
  pub some : 0 < n
  pub within : n ≤ length text
  pub lexeme : IsLexeme kind (take n text)
  pub longest : (other : TokenKind) (m : ℕ) → m ≤ length text → IsLexeme other (take m text) → m ≤ n

-- no prefix is a token
abbrev pub BeginsNoToken : List ℕ → Type 0
BeginsNoToken text = (kind : TokenKind) (n : ℕ) → n ≤ length text → ¬ IsLexeme kind (take n text)
