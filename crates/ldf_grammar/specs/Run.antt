-- The statements of a text: the first one names the format, and the others come in any order (LIN Specification
-- Package 2.1, "LIN description file").
use Rattle.std.specs.Prelude.{◌≡◌, ℕ, true, List, [], ◌∷◌, length}
use Rattle.sig_text.specs.declared.token.Token.{Token}
use Rattle.sig_text.specs.Tokens.{IsTokens}
use Rattle.token_forms.specs.Grammar.{◌▸◌, Lacks, Each, BreaksAt}
use Rattle.ldf_grammar.specs.Statements.{Part, FirstRow, Parses}
use Rattle.ldf_grammar.specs.declared.statement.Statement.{Statement}

-- a statement, and as many as there are one behind another: none is behind the last one
abbrev pub Row : List ℕ → Statement → Part
Row text statement tokens rest = Parses text tokens statement rest

abbrev pub LongestRun : List ℕ → List Statement → Part
LongestRun text = Each (Row text)

-- the first statement, and these behind it
abbrev pub AllRows : List ℕ → List Statement → Part
AllRows text statements = FirstRow text ▸ LongestRun text statements

-- these are the statements behind the first one, and they are the whole text
pub record HasStatements (text : List ℕ) (statements : List Statement) : Type 0 where
  pub tokens : List Token
  pub lexed : IsTokens text true tokens
  pub parse : AllRows text statements tokens []

-- the place of the first token, or the text's end where there is none
abbrev pub place_of : List ℕ → List Token → ℕ
place_of text [] = length text
place_of text (token ∷ rest) = token.at

-- where statements break off: at the text's start where the first one is not there, else before the first token behind
-- the longest run
pub data BreaksOff (text : List ℕ) (tokens : List Token) (at : ℕ) : Type 0 where
  unnamed : Lacks (FirstRow text) tokens → at ≡ place_of text tokens → BreaksOff text tokens at
  cut_short : (rest : List Token) → FirstRow text tokens rest → BreaksAt (Row text) rest at → BreaksOff text tokens at

pub record IsStatementFault (text : List ℕ) (at : ℕ) : Type 0 where
  pub tokens : List Token
  pub lexed : IsTokens text true tokens
  pub broken : BreaksOff text tokens at
