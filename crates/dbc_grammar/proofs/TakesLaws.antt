-- A statement takes one token at least, and so does each form of which a statement has any number.
use Rattle.std.proofs.Common.{subst, arith, ℕ, ◌<◌, List, [], ◌∷◌, length}
use Rattle.std.specs.Prelude.{Option, Some, None}
use Rattle.sig_text.specs.declared.token.Token.{Token}
use Rattle.token_forms.specs.Runs.{Form, TakesTokens}
use Rattle.dbc_grammar.specs.declared.statement.Statement.{Statement}
use Rattle.dbc_grammar.specs.declared.statement.SignalForm.{SignalForm}
use Rattle.dbc_grammar.specs.Forms.{value_text_at, receiver_at, signal_at, more_range_at, statement_at}
use Rattle.dbc_grammar.proofs.FormLaws as forms
use Rattle.dbc_grammar.proofs.FormLaws.{IfFound, IsInherited}

-- fewer than so many tokens
abbrev Fewer : ℕ → List Token → Type 0
Fewer n tokens = length tokens < n

abbrev Any : Token → Type 0
Any token = Unit {0}

inherited : (n : ℕ) → IsInherited (Fewer n) Any
inherited n = record { head = λ token rest fewer. tt; tail = λ token rest fewer. omega (arith, fewer) }

first : (tokens : List Token) → forms.Behind (Fewer (length tokens)) Any (inherited (length tokens)) tokens
first [] = tt
first (token ∷ rest) = (tt, omega arith)

-- a statement behind which fewer tokens are left
abbrev Left : ℕ → Statement × List Token → Type 0
Left n = forms.Keeps (Fewer n) Any (inherited n) (forms.NamesStatement (Fewer n) Any (inherited n))

leaves : (text : List ℕ) (tokens : List Token)
    → IfFound (λ (found : Statement × List Token). length found.1 < length tokens) (statement_at text tokens)
leaves text tokens =
    left (statement_at text tokens)
    (forms.statement_of (Fewer (length tokens)) Any (inherited (length tokens)) text tokens (first tokens)) where
      left : (o : Option (Statement × List Token))
          → IfFound (Left (length tokens)) o
          → IfFound (λ (found : Statement × List Token). length found.1 < length tokens) o
      left None kept = tt
      left (Some found) kept = kept.1

pub statement_takes : (text : List ℕ) → TakesTokens (statement_at text)
statement_takes text tokens found e =
    let P : Option (Statement × List Token) → Type 0 = IfFound (λ (x : Statement × List Token). length x.1 < length tokens) in
    subst P e (leaves text tokens)

-- ---- the forms that are repeated

fewer_left : {A : Type 0} (form : Form A) → ((tokens : List Token) → IfFound (λ (found : A × List Token). length found.1 < length tokens)
    (form tokens)) → TakesTokens form
fewer_left {A} form fewer tokens found e =
    let P : Option (A × List Token) → Type 0 = IfFound (λ (x : A × List Token). length x.1 < length tokens) in
    subst P e (fewer tokens)

pub value_text_takes : (text : List ℕ) → TakesTokens (value_text_at text)
value_text_takes text = fewer_left (value_text_at text) (λ tokens.
    forms.value_text_of (Fewer (length tokens)) Any (inherited (length tokens)) text tokens (first tokens))

pub receiver_takes : (text : List ℕ) → TakesTokens (receiver_at text)
receiver_takes text = fewer_left (receiver_at text) (λ tokens.
    forms.receiver_of (Fewer (length tokens)) Any (inherited (length tokens)) text tokens (first tokens))

pub more_range_takes : (text : List ℕ) → TakesTokens (more_range_at text)
more_range_takes text = fewer_left (more_range_at text) (λ tokens.
    forms.more_range_of (Fewer (length tokens)) Any (inherited (length tokens)) text tokens (first tokens))

left_behind : (n : ℕ) (o : Option (SignalForm × List Token))
    → IfFound (forms.Keeps (Fewer n) Any (inherited n) (forms.NamesSignal (Fewer n) Any (inherited n))) o
    → IfFound (λ (found : SignalForm × List Token). length found.1 < n) o
left_behind n None kept = tt
left_behind n (Some found) kept = kept.1

pub signal_takes : (text : List ℕ) → TakesTokens (signal_at text)
signal_takes text = fewer_left (signal_at text) (λ tokens. left_behind (length tokens) (signal_at text tokens)
    (forms.signal_of (Fewer (length tokens)) Any (inherited (length tokens)) text tokens (first tokens)))
