-- Forms that are one after another, as many as there are: the longest run of whole statements of a text, and the
-- repeated parts of a statement.
use Rattle.std.specs.Prelude.{◌≡◌, ℕ, ◌<◌, zero, suc, List, [], ◌∷◌, length, Option, Some, None}
use Rattle.sig_text.specs.declared.token.Token.{Token}

-- a form says what is at the front of tokens, and gives the tokens after it
abbrev pub Form : Type 0 → Type 0
Form A = List Token → Option (A × List Token)

-- a form takes one token at least
abbrev pub TakesTokens : {A : Type 0} → Form A → Type 0
TakesTokens {A} form = (tokens : List Token) (found : A × List Token) → form tokens ≡ Some found → length found.1 < length tokens

-- these are one after another at the front of the tokens, and the tokens after them are the rest
abbrev pub AreRun : {A : Type 0} → Form A → List Token → List A → List Token → Type 0
AreRun form tokens [] rest = tokens ≡ rest
AreRun {A} form tokens (x ∷ xs) rest = (middle : List Token) × (form tokens ≡ Some (x, middle)) × AreRun form middle xs rest

-- the longest run: none of the form begins the rest
pub record IsLongestRun {A : Type 0} (form : Form A) (tokens : List Token) (xs : List A) (rest : List Token) : Type 0 where
  pub run : AreRun form tokens xs rest
  pub longest : form rest ≡ None

-- one more before those of a run
abbrev pub put_first : {A : Type 0} → A → List A × List Token → List A × List Token
put_first x run = (x ∷ run.0, run.1)

-- up to n of a form, one after another
abbrev pub run_by : {A : Type 0} → (List Token → List A × List Token) → List Token → Option (A × List Token) → List A × List Token
run_by later tokens None = ([], tokens)
run_by later tokens (Some found) = put_first found.0 (later found.1)

unfoldable pub run_within : {A : Type 0} → ℕ → Form A → List Token → List A × List Token
run_within zero form tokens = ([], tokens)
run_within (suc n) form tokens = run_by (run_within n form) tokens (form tokens)

-- all of a form that begin the tokens, each of one token at least, and the tokens after them
abbrev pub run_of : {A : Type 0} → Form A → List Token → List A × List Token
run_of form tokens = run_within (length tokens) form tokens
