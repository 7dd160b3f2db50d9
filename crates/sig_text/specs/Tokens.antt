-- The tokens of a text, and its first lexical fault.
use Rattle.std.specs.Prelude.{◌≡◌, ℕ, ◌+◌, ◌<◌, ◌≤◌, ◌⊎◌, Bool, List, [], ◌∷◌, length, slice_index, slice_range, IsTrue}
use Rattle.sig_text.specs.Bytes.{quote, star, slash}
use Rattle.sig_text.specs.Lexemes.{IsLexeme, IsString}
use Rattle.sig_text.specs.Blank.{IsBlank, IsBlockComment}
use Rattle.sig_text.specs.declared.token.TokenKind.{TokenKind}
use Rattle.sig_text.specs.declared.token.Token.{Token}
use Rattle.sig_text.specs.declared.fault.LexFault.{LexFault}
use Rattle.sig_text.specs.declared.fault.LexFault.TheVariants.{OpenString, OpenComment, Byte, Memory}

-- the token is in the text, and no longer lexeme of a token, of whatever kind, begins at its place
pub record IsToken (text : List ℕ) (token : Token) : Type 0 where
  pub ordered : token.at < token.end
  pub within : token.end ≤ length text
  pub lexeme : IsLexeme token.kind (slice_range text token.at token.end)
  pub longest : (kind : TokenKind) (end : ℕ) → token.end < end → end ≤ length text →
      ¬ IsLexeme kind (slice_range text token.at end)

-- no token begins at this place
abbrev pub BeginsNoTokenAt : List ℕ → ℕ → Type 0
BeginsNoTokenAt text at = (kind : TokenKind) (end : ℕ) → end ≤ length text → ¬ IsLexeme kind (slice_range text at end)

-- the text from one place to another is blanks that end at these places, one behind the other
abbrev pub AreBlanks : List ℕ → Bool → ℕ → List ℕ → ℕ → Type 0
AreBlanks text comments from [] to = from ≡ to
AreBlanks text comments from (end ∷ ends) to = IsBlank text comments from end × AreBlanks text comments end ends to

-- only blanks lie between two places
abbrev pub IsGap : List ℕ → Bool → ℕ → ℕ → Type 0
IsGap text comments from to = (ends : List ℕ) × AreBlanks text comments from ends to

-- from one place to another the tokens are in order, with only blanks between, before and after them
abbrev pub AreTokens : List ℕ → Bool → ℕ → List Token → ℕ → Type 0
AreTokens text comments from [] to = IsGap text comments from to
AreTokens text comments from (token ∷ tokens) to =
    IsGap text comments from token.at × IsToken text token × AreTokens text comments token.end tokens to

-- these are the tokens of the whole text
abbrev pub IsTokens : List ℕ → Bool → List Token → Type 0
IsTokens text comments tokens = AreTokens text comments 0 tokens (length text)

-- tokens and blanks lead from the head of the text up to this place
abbrev pub IsReached : List ℕ → Bool → ℕ → Type 0
IsReached text comments at = (tokens : List Token) × AreTokens text comments 0 tokens at

-- a quote without an end
pub record IsOpenString (text : List ℕ) (at : ℕ) : Type 0 where
  pub opening : slice_index text at ≡ quote
  pub endless : (end : ℕ) → end ≤ length text → ¬ IsString (slice_range text at end)

-- a `/*` without an end
pub record IsOpenComment (text : List ℕ) (at : ℕ) : Type 0 where
  pub opening_slash : slice_index text at ≡ slash
  pub opening_star : slice_index text (at + 1) ≡ star
  pub endless : (end : ℕ) → end ≤ length text → ¬ IsBlockComment (slice_range text at end)

-- no blank begins there, and no comment without an end
pub record BeginsNoBlank (text : List ℕ) (comments : Bool) (at : ℕ) : Type 0 where
  pub no_blank : (end : ℕ) → ¬ IsBlank text comments at end
  pub no_open_comment : IsTrue comments → ¬ IsOpenComment text at

-- a byte at which no token, blank or comment begins, be it with or without an end
pub record IsStrayByte (text : List ℕ) (comments : Bool) (at : ℕ) : Type 0 where
  pub within : at < length text
  pub no_token : BeginsNoTokenAt text at
  pub no_blank : BeginsNoBlank text comments at
  pub no_open_string : ¬ IsOpenString text at

-- the fault begins at its place
abbrev pub BeginsFault : List ℕ → Bool → LexFault → Type 0
BeginsFault text comments (OpenString at) = IsOpenString text at
BeginsFault text comments (OpenComment at) = IsTrue comments × IsOpenComment text at
BeginsFault text comments (Byte at) = IsStrayByte text comments at
BeginsFault text comments Memory = ⊥

-- where the fault begins
abbrev pub place_of : LexFault → ℕ
place_of (OpenString at) = at
place_of (OpenComment at) = at
place_of (Byte at) = at
place_of Memory = 0

-- the first lexical fault of the text: tokens and blanks lead up to it
abbrev pub IsLexFault : List ℕ → Bool → LexFault → Type 0
IsLexFault text comments fault = IsReached text comments (place_of fault) × BeginsFault text comments fault

-- an error names the first fault, or memory ran out
abbrev pub IsFaultOrMemory : List ℕ → Bool → LexFault → Type 0
IsFaultOrMemory text comments fault = IsLexFault text comments fault ⊎ (fault ≡ Memory)
