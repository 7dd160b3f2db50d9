-- What is at the front of tokens, and what is left behind it, in the words of the DBC and LDF grammars. A part is a
-- relation between tokens and the tokens after it; a row of a grammar's table is parts one behind another.
use Rattle.std.specs.Prelude.{◌≡◌, ℕ, ◌≤◌, ◌⊎◌, true, false, List, [], ◌∷◌, drop, Option, Some, None, codes}
use Rattle.byte_forms.specs.declared.numerals.Radix.{Radix}
use Rattle.byte_forms.specs.declared.numerals.Radix.TheVariants.{Decimal, Hexadecimal}
use Rattle.byte_forms.specs.Numerals.{number_of, is_numeral}
use Rattle.sig_text.specs.declared.token.TokenKind.TheVariants.{Word, Number, Str}
use Rattle.sig_text.specs.declared.token.Token.{Token}
use Rattle.token_forms.specs.declared.numbers.SignedNumber.{SignedNumber}
use Rattle.token_forms.specs.Pieces.{token_text}
use Rattle.token_forms.specs.Numbers.{is_hexadecimal}

-- ---- how parts are joined

-- one part, and the next behind it
infixr 10 ◌▸◌
abbrev pub ◌▸◌ : (List Token → List Token → Type 0) → (List Token → List Token → Type 0) → List Token → List Token → Type 0
◌▸◌ First Next tokens rest = (between : List Token) × First tokens between × Next between rest

-- a part that says something, whatever it says
abbrev pub Any : {A : Type 0} → (A → List Token → List Token → Type 0) → List Token → List Token → Type 0
Any {A} Part tokens rest = (x : A) × Part x tokens rest

-- the part is not there
abbrev pub Lacks : (List Token → List Token → Type 0) → List Token → Type 0
Lacks Part tokens = (rest : List Token) → ¬ Part tokens rest

-- the part, or nothing where it is not there
abbrev pub Optional : (List Token → List Token → Type 0) → List Token → List Token → Type 0
Optional Part tokens rest = Part tokens rest ⊎ ((tokens ≡ rest) × Lacks Part tokens)

-- parts one behind another that say these, as many as there are: none follows
abbrev pub Each : {A : Type 0} → (A → List Token → List Token → Type 0) → List A → List Token → List Token → Type 0
Each Part [] tokens rest = (tokens ≡ rest) × Lacks (Any Part) rest
Each Part (x ∷ xs) tokens rest = (Part x ▸ Each Part xs) tokens rest

-- as many as there are, and then a token, which is at this place of the text
pub record BreaksAt {A : Type 0} (Part : A → List Token → List Token → Type 0) (tokens : List Token) (at : ℕ) : Type 0 where
  pub found : List A
  pub token : Token
  pub later : List Token
  pub each : Each Part found tokens (token ∷ later)
  pub place : at ≡ token.at

-- ---- single tokens

-- one token of a sort
abbrev pub One : (Token → Type 0) → Token → List Token → List Token → Type 0
One Sort token tokens rest = (tokens ≡ token ∷ rest) × Sort token

-- a word or a sign that the grammar quotes: a token of these bytes
abbrev pub Quoted : List ℕ → List ℕ → List Token → List Token → Type 0
Quoted text literal = Any (One (λ (token : Token). token_text text token ≡ literal))

abbrev pub IsWord : Token → Type 0
IsWord token = token.kind ≡ Word

abbrev pub IsNumber : Token → Type 0
IsNumber token = token.kind ≡ Number

abbrev pub IsString : Token → Type 0
IsString token = token.kind ≡ Str

-- all tokens of a sort, as many as there are
abbrev pub AllOf : (Token → Type 0) → List Token → List Token → Type 0
AllOf Sort = Any (Each (One Sort))

-- ---- numbers

-- digits of this value, which is at most the limit
pub record HasValue (radix : Radix) (text : List ℕ) (limit n : ℕ) : Type 0 where
  pub digits : is_numeral radix text ≡ true
  pub value : n ≡ number_of radix text
  pub within : n ≤ limit

-- a Number of digits alone, of any size
abbrev pub IsDigits : List ℕ → Token → Type 0
IsDigits text token = IsNumber token × (is_numeral Decimal (token_text text token) ≡ true)

-- a whole number: a Number of digits alone, at most the limit
abbrev pub Whole : List ℕ → ℕ → ℕ → List Token → List Token → Type 0
Whole text limit n = Any (One (λ (token : Token). IsNumber token × HasValue Decimal (token_text text token) limit n))

-- a number of digits alone, or of `0x` and hexadecimal digits, at most the limit
abbrev pub HasAnyValue : List ℕ → ℕ → ℕ → Type 0
HasAnyValue text limit n =
    ((is_hexadecimal text ≡ false) × HasValue Decimal text limit n)
    ⊎ ((is_hexadecimal text ≡ true) × HasValue Hexadecimal (drop 2 text) limit n)

abbrev pub NumberUpTo : List ℕ → ℕ → ℕ → List Token → List Token → Type 0
NumberUpTo text limit n = Any (One (λ (token : Token). IsNumber token × HasAnyValue (token_text text token) limit n))

-- `+` or `-`
abbrev pub IsSignToken : List ℕ → Token → Type 0
IsSignToken text token = (token_text text token ≡ codes "+") ⊎ (token_text text token ≡ codes "-")

-- an optional sign
abbrev pub OptionalSign : List ℕ → Option Token → List Token → List Token → Type 0
OptionalSign text None tokens rest = (tokens ≡ rest) × Lacks (Any (One (IsSignToken text))) tokens
OptionalSign text (Some sign) tokens rest = One (IsSignToken text) sign tokens rest

-- a Number without `0x`
abbrev pub IsUnmarked : List ℕ → Token → Type 0
IsUnmarked text token = IsNumber token × (is_hexadecimal (token_text text token) ≡ false)

-- a signed number: a Number without `0x` behind an optional sign
abbrev pub Signed : List ℕ → SignedNumber → List Token → List Token → Type 0
Signed text n = OptionalSign text n.sign ▸ One (IsUnmarked text) n.number
